-- The first line of a history is the first of a log, and of a journal: but the logs begin with selects, and the journals with offers.
use Rattle.std.proofs.Common.{refl, rules, arith, lit<, sym, ap, subst, ◌∙◌, ◌≡◌, ◌==◌, ◌<◌, ℕ, zero, suc, Bool, true, List, [], ◌∷◌, length, get_or as slice_index_or}
use Rattle.std.proofs.lemmas.Bool.{eq-eqb}
use Rattle.sched_base.specs.declared.Act.TheVariants as acts
use Rattle.flat_policy.specs.declared.journal.Line.{Line}
use Rattle.flat_policy.specs.Runs.Histories.{act_of, actor_of}
use Rattle.flat_policy.specs.Runs.Interleaving.{Interleaves, is_spot_of, lines_at_cluster, lines_of_actor, spot_by_journals}
use Rattle.worked_examples.proofs.Differ.{acts_differ, first_kept}
use Rattle.worked_examples.specs.Examples.Merging.{crossed_journals, offer_to_0, offer_to_1, select_of_0, select_of_1, two_logs}
use Rattle.worked_examples.specs.Examples.Refused.{journals_by_1}
use Rattle.worked_examples.proofs.refused.moved_line_fits_nowhere.Goals as goal

-- the first line of an actor
first_of_log : (a : ℕ) (x : Line) (rest : List Line) (y : Line) (ys : List Line) → actor_of x ≡ a → lines_of_actor a (x ∷ rest) ≡ y ∷ ys → x ≡ y
first_of_log a x rest y ys by is = first_kept (λ (l : Line). actor_of l == a) x rest y ys (eq-eqb (actor_of x) a by) is

-- the first line of a cluster
abbrev stands : ℕ → Line → Bool
stands c l = is_spot_of c (spot_by_journals crossed_journals l)

first_of_journal : (c : ℕ) (x : Line) (rest : List Line) (y : Line) (ys : List Line) → stands c x ≡ true → lines_at_cluster crossed_journals c (x ∷ rest) ≡ y ∷ ys → x ≡ y
first_of_journal c x rest y ys there is = first_kept (stands c) x rest y ys there is

by_first : (n : ℕ) (x : Line) (rest : List Line) → actor_of x ≡ n → n < 2 → Interleaves crossed_journals [] two_logs (x ∷ rest) → ⊥
by_first zero x rest by below fits =
    let same = first_of_log 0 x rest select_of_0 (offer_to_0 ∷ []) by (fits.of_actors 0 (lit< tt)) in
    let there : stands 0 x ≡ true = subst (λ y. stands 0 y ≡ true) (sym same) refl in
    let other = first_of_journal 0 x rest offer_to_1 (select_of_0 ∷ []) there (fits.at_clusters 0 (lit< tt))
    in acts_differ acts.Select (acts.Offer 0) (ap act_of (sym same ∙ other)) refl
by_first (suc zero) x rest by below fits =
    let same = first_of_log 1 x rest select_of_1 (offer_to_1 ∷ []) by (fits.of_actors 1 (lit< tt)) in
    let there : stands 1 x ≡ true = subst (λ y. stands 1 y ≡ true) (sym same) refl in
    let other = first_of_journal 1 x rest offer_to_0 (select_of_1 ∷ []) there (fits.at_clusters 1 (lit< tt))
    in acts_differ acts.Select (acts.Offer 1) (ap act_of (sym same ∙ other)) refl
by_first (suc (suc n)) x rest by below fits = absurd (omega (arith, below))

nowhere : (history : List Line) → Interleaves crossed_journals [] two_logs history → ⊥
nowhere [] fits = let few : 0 ≡ 2 = ap length (fits.of_actors 0 (lit< tt)) in omega (arith, few)
nowhere (x ∷ rest) fits = by_first (actor_of x) x rest refl fits.given.0.0 fits

abbrev good : List Line
good = select_of_1 ∷ offer_to_1 ∷ select_of_0 ∷ offer_to_0 ∷ []

at_clusters : (c : ℕ) → c < 2 → lines_at_cluster journals_by_1 c good ≡ slice_index_or journals_by_1 c []
at_clusters zero h = refl
at_clusters (suc zero) h = refl
at_clusters (suc (suc c)) h = absurd (omega (arith, h))

of_actors : (a : ℕ) → a < 2 → lines_of_actor a good ≡ slice_index_or two_logs a []
of_actors zero h = refl
of_actors (suc zero) h = refl
of_actors (suc (suc a)) h = absurd (omega (arith, h))

pub returns : goal.returns
returns c = (record { at_clusters = at_clusters; in_yard = refl; of_actors = of_actors; given = search rules }, nowhere)
