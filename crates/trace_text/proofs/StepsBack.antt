-- Steps that were read, told by their pieces.
use Rattle.std.proofs.Common.{[], arith, codes, decimal, List, refl, subst, ℕ, ◌++◌, ◌-◌, ◌<◌, ◌^◌, ◌≡◌, ◌≤◌, ◌∷◌, Bool, IfSome, None, Ok, Option, Result, Some, inl, inr}
use Rattle.std.proofs.lemmas.Bool.{cases_Bool}
use Rattle.sched_base.specs.declared.Act.{Act}
use Rattle.sched_base.specs.declared.Bucket.{Bucket}
use Rattle.sched_base.specs.declared.Step.{Step}
use Rattle.flat_policy.specs.declared.texts.LineFault.{LineFault}
use Rattle.flat_policy.specs.Texts.Pieces.{actor_at, and_then, base_at, bound_at, bound_piece, bound_within, bucket_at, bucket_piece, bucket_words, cluster_at, end_at, end_piece, end_words, group_at, made_of, moment_at, most_of_32, name_at, next_piece, number_within, same_text, word_among}
use Rattle.flat_policy.specs.Texts.Steps.{act_at, act_pieces, act_words, enter_at, make_at, step_at, step_pieces}
use Rattle.trace_text.proofs.ReadBack.{◌also◌, Back, PieceBack, behind, lone_back, made_back, next_back, number_back, number_behind, retold, same_text_is, word_back, words_back}
use Rattle.trace_text.proofs.Readings.{and_then_ok, ok_is}
use Rattle.trace_text.specs.Writing.{ActFits, StepFits}
use Rattle.sched_base.specs.declared.Act.TheVariants as acts

-- ---- the fields

pub field_back : (most : ℕ) → most < 2 ^ 64 → (ps qs : List (List ℕ)) (n : ℕ) → next_piece (number_within most) ps ≡ Ok (n, qs) → (ps ≡ decimal n ∷ qs) × (n ≤ most)
field_back most lt ps qs n e = next_back decimal (λ n. n ≤ most) (number_within most) (number_back most lt) ps qs n e

pub bucket_back : (ps qs : List (List ℕ)) (b : Bucket) → bucket_at ps ≡ Ok (b, qs) → ps ≡ bucket_piece b ∷ qs
bucket_back ps qs b e =
    (next_back bucket_piece (λ _. Unit {0}) (word_among bucket_words) (λ p x is. (word_back (λ t b. t ≡ bucket_piece b) bucket_words (refl, (refl, (refl, (refl, (refl, (refl, tt)))))) p x is, tt)) ps qs b e).0

end_back : (ps qs : List (List ℕ)) (head : Bool) → end_at ps ≡ Ok (head, qs) → ps ≡ end_piece head ∷ qs
end_back ps qs head e =
    (next_back end_piece (λ _. Unit {0}) (word_among end_words) (λ p x is. (word_back (λ t h. t ≡ end_piece h) end_words (refl, (refl, tt)) p x is, tt)) ps qs head e).0

bound_piece_back : PieceBack bound_piece (λ o. IfSome o (λ c. c ≤ 15)) bound_within
bound_piece_back p o e =
    elim (cases_Bool (same_text p (codes "-"))) [
      | inl dash ↦
          let none : ◌≡◌ {A = Result (Option ℕ) LineFault} (Ok None) (Ok o) = rw dash at e in
          let same : None ≡ o = ok_is None o none in
          subst (λ (o : Option ℕ). (p ≡ bound_piece o) × IfSome o (λ c. c ≤ 15)) same (same_text_is p (codes "-") dash, tt)
      | inr other ↦
          let some : and_then (number_within 15 p) (λ c. Ok (Some c)) ≡ Ok o = rw other at e in
          let c = and_then_ok (number_within 15 p) (λ c. Ok (Some c)) o some in
          let same : Some c.0 ≡ o = ok_is (Some c.0) o c.2 in
          subst (λ (o : Option ℕ). (p ≡ bound_piece o) × IfSome o (λ c. c ≤ 15)) same (number_back 15 (omega arith) p c.0 c.1)
    ]

pub bound_back : (ps qs : List (List ℕ)) (o : Option ℕ) → bound_at ps ≡ Ok (o, qs) → (ps ≡ bound_piece o ∷ qs) × IfSome o (λ c. c ≤ 15)
bound_back ps qs o e = next_back bound_piece (λ o. IfSome o (λ c. c ≤ 15)) bound_within bound_piece_back ps qs o e

-- ---- the acts

below_32 : (n : ℕ) → n ≤ 2 ^ 32 - 1 → n < 2 ^ 32
below_32 n le = omega arith

make_back : Back act_pieces ActFits (codes "make" ∷ []) make_at
make_back ps qs x e =
    let name = and_then_ok (name_at ps) _ (x, qs) e in
    let group = and_then_ok (group_at name.0.1) _ (x, qs) name.2 in
    let bucket = and_then_ok (bucket_at group.0.1) _ (x, qs) group.2 in
    let base = and_then_ok (base_at bucket.0.1) _ (x, qs) bucket.2 in
    let bound = made_back (λ o. acts.Make name.0.0 group.0.0 bucket.0.0 base.0.0 o) (bound_at base.0.1) x qs base.2 in
    let name_is = field_back most_of_32 (omega arith) ps name.0.1 name.0.0 name.1 in
    let group_is = field_back 63 (omega arith) name.0.1 group.0.1 group.0.0 group.1 in
    let bucket_is = bucket_back group.0.1 bucket.0.1 bucket.0.0 bucket.1 in
    let base_is = field_back 127 (omega arith) bucket.0.1 base.0.1 base.0.0 base.1 in
    let bound_is = bound_back base.0.1 qs bound.0 bound.1 in
    let pieces = behind refl (behind name_is.0 (behind group_is.0 (behind bucket_is (behind base_is.0 bound_is.0)))) in
    let made = acts.Make name.0.0 group.0.0 bucket.0.0 base.0.0 bound.0 in
    retold act_pieces ActFits (codes "make" ∷ []) ps qs made x bound.2 pieces (below_32 name.0.0 name_is.1, group_is.1, base_is.1, bound_is.1)

enter_back : Back act_pieces ActFits (codes "enter" ∷ []) enter_at
enter_back ps qs x e =
    let c = and_then_ok (cluster_at ps) _ (x, qs) e in
    let head = made_back (λ head. acts.Enter c.0.0 head) (end_at c.0.1) x qs c.2 in
    let c_is = field_back 15 (omega arith) ps c.0.1 c.0.0 c.1 in
    let head_is = end_back c.0.1 qs head.0 head.1 in
    retold act_pieces ActFits (codes "enter" ∷ []) ps qs (acts.Enter c.0.0 head.0) x head.2 (behind refl (behind c_is.0 head_is)) c_is.1

alone_back : (word : List ℕ) (a : Act) → word ∷ [] ≡ act_pieces a → ActFits a → Back act_pieces ActFits (word ∷ []) (λ ps. Ok (a, ps))
alone_back word a is fits = lone_back act_pieces ActFits (word ∷ []) a is fits

cluster_back : (word : List ℕ) (f : ℕ → Act) → ((c : ℕ) → word ∷ decimal c ∷ [] ≡ act_pieces (f c)) → ((c : ℕ) → c ≤ 15 → ActFits (f c)) → Back act_pieces ActFits (word ∷ []) (λ ps. made_of f (cluster_at ps))
cluster_back word f is fits = number_behind act_pieces ActFits (word ∷ []) 15 f (omega arith) is fits

name_back : (word : List ℕ) (f : ℕ → Act) → ((n : ℕ) → word ∷ decimal n ∷ [] ≡ act_pieces (f n)) → ((n : ℕ) → n < 2 ^ 32 → ActFits (f n)) → Back act_pieces ActFits (word ∷ []) (λ ps. made_of f (name_at ps))
name_back word f is fits = number_behind act_pieces ActFits (word ∷ []) most_of_32 f (omega arith) is (λ n le. fits n (below_32 n le))

pub act_back : Back act_pieces ActFits [] act_at
act_back =
    words_back act_pieces ActFits [] act_words (
    make_back
    also enter_back
    also alone_back (codes "select") acts.Select refl tt
    also cluster_back (codes "offer") (λ c. acts.Offer c) (λ c. refl) (λ c le. le)
    also name_back (codes "pull") (λ n. acts.Pull n) (λ n. refl) (λ n lt. lt)
    also cluster_back (codes "look") (λ c. acts.Look c) (λ c. refl) (λ c le. le)
    also alone_back (codes "aim") acts.Aim refl tt
    also name_back (codes "ran") (λ n. acts.Ran n) (λ n. refl) (λ n lt. lt)
    also alone_back (codes "sleep") acts.Sleep refl tt
    also name_back (codes "wake") (λ n. acts.Wake n) (λ n. refl) (λ n lt. lt)
    also alone_back (codes "end") acts.End refl tt
    also alone_back (codes "blocked") acts.Blocked refl tt
    also alone_back (codes "refresh") acts.Refresh refl tt
    also cluster_back (codes "off") (λ c. acts.Off c) (λ c. refl) (λ c le. le)
    also cluster_back (codes "on") (λ c. acts.On c) (λ c. refl) (λ c le. le)
    also tt
    )

-- ---- a step

pub step_back : (ps qs : List (List ℕ)) (s : Step) → step_at ps ≡ Ok (s, qs) → (ps ≡ step_pieces s ++ qs) × StepFits s
step_back ps qs s e =
    let moment = and_then_ok (moment_at ps) _ (s, qs) e in
    let actor = and_then_ok (actor_at moment.0.1) _ (s, qs) moment.2 in
    let act = made_back (λ act. record { moment = moment.0.0; actor = actor.0.0; act = act }) (act_at actor.0.1) s qs actor.2 in
    let moment_is = field_back (2 ^ 40 - 1) (omega arith) ps moment.0.1 moment.0.0 moment.1 in
    let actor_is = field_back 15 (omega arith) moment.0.1 actor.0.1 actor.0.0 actor.1 in
    let act_is = act_back actor.0.1 qs act.0 act.1 in
    let below : moment.0.0 < 2 ^ 40 = omega (arith, moment_is.1) in
    subst (λ (s : Step). (ps ≡ step_pieces s ++ qs) × StepFits s) act.2 (behind moment_is.0 (behind actor_is.0 act_is.0), record { moment = below; actor = actor_is.1; act = act_is.1 })
