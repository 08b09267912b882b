-- Answers that were read, told by their pieces.
use Rattle.std.proofs.Common.{[], arith, codes, decimal, List, refl, ℕ, ◌<◌, ◌^◌, ◌≡◌, ◌≤◌, ◌∷◌, Ok}
use Rattle.sched_base.specs.declared.Answer.{Answer}
use Rattle.sched_base.specs.declared.Place.{Place}
use Rattle.flat_policy.specs.Texts.Answers.{answer_at, answer_pieces, answer_words, counted, place_at, place_pieces, place_words, placed, refusal_at, refusal_words}
use Rattle.flat_policy.specs.Texts.Pieces.{cluster_at, made_of, most_of_32, most_of_64}
use Rattle.trace_text.proofs.ReadBack.{◌also◌, Back, lone_back, made_behind, number_behind, words_back}
use Rattle.trace_text.specs.Writing.{AnswerFits, PlaceFits}
use Rattle.sched_base.specs.declared.Answer.TheVariants as answers
use Rattle.sched_base.specs.declared.Place.TheVariants as places

-- ---- places

place_number : (word : List ℕ) (f : ℕ → Place) → ((c : ℕ) → word ∷ decimal c ∷ [] ≡ place_pieces (f c)) → ((c : ℕ) → c ≤ 15 → PlaceFits (f c)) → Back place_pieces PlaceFits (word ∷ []) (λ ps. made_of f (cluster_at ps))
place_number word f is fits = number_behind place_pieces PlaceFits (word ∷ []) 15 f (omega arith) is fits

place_alone : (word : List ℕ) (p : Place) → word ∷ [] ≡ place_pieces p → PlaceFits p → Back place_pieces PlaceFits (word ∷ []) (λ ps. Ok (p, ps))
place_alone word p is fits = lone_back place_pieces PlaceFits (word ∷ []) p is fits

place_back : Back place_pieces PlaceFits [] place_at
place_back =
    words_back place_pieces PlaceFits [] place_words (
    place_number (codes "q") (λ c. places.Queue c) (λ c. refl) (λ c le. le)
    also place_number (codes "hand") (λ a. places.Hand a) (λ a. refl) (λ a le. le)
    also place_alone (codes "blocked") places.Blocked refl tt
    also place_alone (codes "ended") places.Ended refl tt
    also place_alone (codes "none") places.Nowhere refl tt
    also tt
    )

-- ---- refusals

refused_alone : (word : List ℕ) (a : Answer) → codes "no" ∷ word ∷ [] ≡ answer_pieces a → AnswerFits a → Back answer_pieces AnswerFits (codes "no" ∷ word ∷ []) (λ ps. Ok (a, ps))
refused_alone word a is fits = lone_back answer_pieces AnswerFits (codes "no" ∷ word ∷ []) a is fits

refused_place : (word : List ℕ) (f : Place → Answer) → ((p : Place) → codes "no" ∷ word ∷ place_pieces p ≡ answer_pieces (f p)) → ((p : Place) → PlaceFits p → AnswerFits (f p)) → Back answer_pieces AnswerFits (codes "no" ∷ word ∷ []) (placed f)
refused_place word f is fits =
    made_behind place_pieces PlaceFits place_at answer_pieces AnswerFits (codes "no" ∷ word ∷ []) f place_back is fits

refusal_back : Back answer_pieces AnswerFits (codes "no" ∷ []) refusal_at
refusal_back =
    words_back answer_pieces AnswerFits (codes "no" ∷ []) refusal_words (
    refused_alone (codes "HandFull") answers.HandFull refl tt
    also refused_alone (codes "HandEmpty") answers.HandEmpty refl tt
    also refused_alone (codes "NameUsed") answers.NameUsed refl tt
    also refused_alone (codes "NoRoom") answers.NoRoom refl tt
    also refused_place (codes "NotBlocked") (λ p. answers.NotBlocked p) (λ p. refl) (λ p fits. fits)
    also refused_place (codes "NotQueued") (λ p. answers.NotQueued p) (λ p. refl) (λ p fits. fits)
    also refused_alone (codes "OwnCluster") answers.OwnCluster refl tt
    also refused_alone (codes "NotAllowed") answers.NotAllowed refl tt
    also number_behind answer_pieces AnswerFits (codes "no" ∷ codes "LookFirst" ∷ []) 15 (λ c. answers.LookFirst c) (omega arith) (λ c. refl) (λ c le. le)
    also tt
    )

-- ---- answers

answer_alone : (word : List ℕ) (a : Answer) → word ∷ [] ≡ answer_pieces a → AnswerFits a → Back answer_pieces AnswerFits (word ∷ []) (λ ps. Ok (a, ps))
answer_alone word a is fits = lone_back answer_pieces AnswerFits (word ∷ []) a is fits

answer_number : (word : List ℕ) (f : ℕ → Answer) (most : ℕ) → most < 2 ^ 64 → ((n : ℕ) → word ∷ decimal n ∷ [] ≡ answer_pieces (f n)) → ((n : ℕ) → n ≤ most → AnswerFits (f n)) → Back answer_pieces AnswerFits (word ∷ []) (counted f most)
answer_number word f most lt is fits = number_behind answer_pieces AnswerFits (word ∷ []) most f lt is fits

answer_wide : (word : List ℕ) (f : ℕ → Answer) → ((n : ℕ) → word ∷ decimal n ∷ [] ≡ answer_pieces (f n)) → ((n : ℕ) → n < 2 ^ 32 → AnswerFits (f n)) → Back answer_pieces AnswerFits (word ∷ []) (counted f most_of_32)
answer_wide word f is fits =
    answer_number word f most_of_32 (omega arith) is (λ n le. let lt : n < 2 ^ 32 = omega arith in fits n lt)

pub answer_back : Back answer_pieces AnswerFits [] answer_at
answer_back =
    words_back answer_pieces AnswerFits [] answer_words (
    answer_alone (codes "ok") answers.Yes refl tt
    also answer_number (codes "pri") (λ p. answers.Pri p) 127 (omega arith) (λ p. refl) (λ p le. le)
    also answer_wide (codes "got") (λ n. answers.Got n) (λ n. refl) (λ n lt. lt)
    also answer_alone (codes "-") answers.Empty refl tt
    also answer_alone (codes "off") answers.Off refl tt
    also answer_wide (codes "load") (λ l. answers.Load l) (λ l. refl) (λ l lt. lt)
    also answer_number (codes "to") (λ c. answers.To c) 15 (omega arith) (λ c. refl) (λ c le. le)
    also answer_wide (codes "new") (λ n. answers.New n) (λ n. refl) (λ n lt. lt)
    also answer_wide (codes "left") (λ n. answers.Left n) (λ n. refl) (λ n lt. lt)
    also answer_number (codes "work") (λ w. answers.Work w) most_of_64 (omega arith) (λ w. refl) (λ w le. omega arith)
    also refusal_back
    also tt
    )
