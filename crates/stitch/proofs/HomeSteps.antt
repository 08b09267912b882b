-- The homes of actors, journal by journal and line by line.
use Rattle.std.proofs.Common.{◌≡◌, ◌≢◌, ℕ, ◌+◌, ◌<◌, ◌≤◌, ◌==◌, Bool, true, false, ◌&&◌, ◌||◌, cond, List, [], ◌∷◌, length, get_or, set, take, drop, map, Some, replicate, refl, sym, ap, ◌∙◌, subst, inl, inr, ◌⊎◌, arith, eq-eqb, eqb-true, get_or-set_same, get_or-set_other}
use Rattle.std.specs.List.{list_any, slice_get}
use Rattle.std.proofs.lemmas.Bool.{cases_Bool, false≢true}
use Rattle.std.proofs.lemmas.List.{drop_more, get_or-map}
use Rattle.std.proofs.lemmas.List.Folds.{list_any_more}
use Rattle.std.proofs.lemmas.Option.{get_or_from_slice_get, slice_get_within}
use Rattle.flat_policy.specs.declared.journal.Line.{Line}
use Rattle.flat_policy.specs.Policy.Machine.{site_of}
use Rattle.flat_policy.specs.Runs.Histories.{act_of, actor_of}
use Rattle.flat_policy.specs.Runs.Interleaving.{home_from, is_at_home, is_home_journal}
use Rattle.flat_policy.specs.Runs.Journals.{JournalParts}
use Rattle.stitch.specs.Taking.{lines_of}

-- the lines of the journal at a place
pub lines_at : (journals : List JournalParts) (i : ℕ) (j : JournalParts) → i < length journals → j ≡ get_or journals i j → get_or (lines_of journals) i [] ≡ j.lines
lines_at journals i j within e =
    get_or-map (λ (k : JournalParts). k.lines) journals i j [] within ∙ ap (λ (k : JournalParts). k.lines) (sym e)

abbrev tells : ℕ → Line → Bool
tells a l = is_at_home (site_of (act_of l)) && (actor_of l == a)

seen : (lines : List Line) (i a : ℕ) (l : Line) → slice_get lines i ≡ Some l → is_home_journal a (take (i + 1) lines) ≡ (is_home_journal a (take i lines) || tells a l)
seen lines i a l h =
    list_any_more (tells a) lines i l (slice_get_within lines i l h)
    ∙ ap (λ (m : Line). is_home_journal a (take i lines) || tells a m) (get_or_from_slice_get lines i l l h)

or_cond : (x t : Bool) (c o : ℕ) → cond (x || t) c o ≡ cond t c (cond x c o)
or_cond true true c o = refl
or_cond true false c o = refl
or_cond false true c o = refl
or_cond false false c o = refl

-- a line that tells its actor's home marks it
pub marked : (lines : List Line) (i a c o : ℕ) (l : Line) (homes : List ℕ) → slice_get lines i ≡ Some l → get_or homes a 0 ≡ cond (is_home_journal a (take i lines)) c o
    → is_at_home (site_of (act_of l)) ≡ true → actor_of l < length homes → get_or (set homes (actor_of l) c) a 0 ≡ cond (is_home_journal a (take (i + 1) lines)) c o
marked lines i a c o l homes h before home within =
    let told : tells a l ≡ (actor_of l == a) = ap (λ (b : Bool). b && (actor_of l == a)) home in
    let wanted : cond (is_home_journal a (take (i + 1) lines)) c o ≡ cond (actor_of l == a) c (get_or homes a 0) =
    ap (λ (b : Bool). cond b c o) (seen lines i a l h) ∙ or_cond (is_home_journal a (take i lines)) (tells a l) c o
    ∙ ap (λ (b : Bool). cond b c (cond (is_home_journal a (take i lines)) c o)) told ∙ ap (λ (n : ℕ). cond (actor_of l == a) c n) (sym before) in
    elim (cases_Bool (actor_of l == a)) [
      | inl e ↦ (let same : actor_of l ≡ a = eqb-true (actor_of l) a e in
          subst (λ (n : ℕ). get_or (set homes (actor_of l) c) n 0 ≡ c) same (get_or-set_same homes (actor_of l) c 0 within)
          ∙ sym (wanted ∙ ap (λ (b : Bool). cond b c (get_or homes a 0)) e))
      | inr e ↦ (let other : a ≢ actor_of l = λ q. false≢true (sym e ∙ eq-eqb (actor_of l) a (sym q)) in
          get_or-set_other homes (actor_of l) a c 0 other ∙ sym (wanted ∙ ap (λ (b : Bool). cond b c (get_or homes a 0)) e))
    ]

unlike : (home : Bool) (b a few : ℕ) → a < few → few ≤ b → (home && (b == a)) ≡ true → ⊥
unlike true b a few low high e = (let same : b ≡ a = eqb-true b a e in omega arith)
unlike false b a few low high e = false≢true e

-- another line marks none of the first few actors
pub unmarked : (lines : List Line) (i a c o few : ℕ) (l : Line) (homes : List ℕ) → slice_get lines i ≡ Some l → get_or homes a 0 ≡ cond (is_home_journal a (take i lines)) c o
    → a < few → (is_at_home (site_of (act_of l)) ≡ false) ⊎ (few ≤ actor_of l) → get_or homes a 0 ≡ cond (is_home_journal a (take (i + 1) lines)) c o
unmarked lines i a c o few l homes h before low (inl away) =
    before ∙ sym (ap (λ (b : Bool). cond b c o) (seen lines i a l h) ∙ or_cond (is_home_journal a (take i lines)) (tells a l) c o
    ∙ ap (λ (b : Bool). cond (b && (actor_of l == a)) c (cond (is_home_journal a (take i lines)) c o)) away)
unmarked lines i a c o few l homes h before low (inr high) =
    let told : tells a l ≡ false = elim (cases_Bool (tells a l)) [
      | inl e ↦ absurd (unlike (is_at_home (site_of (act_of l))) (actor_of l) a few low high e)
      | inr e ↦ e
    ] in
    before ∙ sym (ap (λ (b : Bool). cond b c o) (seen lines i a l h) ∙ or_cond (is_home_journal a (take i lines)) (tells a l) c o
    ∙ ap (λ (b : Bool). cond b c (cond (is_home_journal a (take i lines)) c o)) told)

-- the homes by the journals from one on
pub home_step : (lists : List (List Line)) (a c : ℕ) (lines : List Line) → c < length lists → get_or lists c [] ≡ lines → home_from a c (drop c lists) ≡ cond (is_home_journal a lines) c (home_from a (c + 1) (drop (c + 1) lists))
home_step lists a c lines within e =
    ap (home_from a c) (drop_more lists c [] within)
    ∙ ap (λ (ls : List Line). cond (is_home_journal a ls) c (home_from a (c + 1) (drop (c + 1) lists))) e
