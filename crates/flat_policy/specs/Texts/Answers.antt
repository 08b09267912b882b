-- Answers as text.
use Rattle.std.specs.Prelude.{Bool, List, Ok, [], codes, decimal, ℕ, ◌-◌, ◌∷◌}
use Rattle.sched_base.specs.Limits.{clusters_of_lines, most_base}
use Rattle.sched_base.specs.declared.Answer.{Answer}
use Rattle.sched_base.specs.declared.Place.{Place}
use Rattle.flat_policy.specs.Texts.Pieces.{Reading, Worded, actor_at, cluster_at, followed_by, made_of, most_of_32, most_of_64, next_piece, number_within, same_text, spaced, word_among, worded}
use Rattle.sched_base.specs.declared.Answer.TheVariants as answers
use Rattle.sched_base.specs.declared.Place.TheVariants as places

-- the pieces of a place
abbrev pub place_pieces : Place → List (List ℕ)
place_pieces (places.Queue c) = codes "q" ∷ decimal c ∷ []
place_pieces (places.Hand a) = codes "hand" ∷ decimal a ∷ []
place_pieces places.Blocked = codes "blocked" ∷ []
place_pieces places.Ended = codes "ended" ∷ []
place_pieces places.Nowhere = codes "none" ∷ []

-- the pieces of a refusal, after `no`
abbrev pub refused : List (List ℕ) → List (List ℕ)
refused ps = codes "no" ∷ ps

-- the pieces of an answer
abbrev pub answer_pieces : Answer → List (List ℕ)
answer_pieces answers.Yes = codes "ok" ∷ []
answer_pieces (answers.Pri p) = codes "pri" ∷ decimal p ∷ []
answer_pieces (answers.Got name) = codes "got" ∷ decimal name ∷ []
answer_pieces answers.Empty = codes "-" ∷ []
answer_pieces answers.Off = codes "off" ∷ []
answer_pieces (answers.Load l) = codes "load" ∷ decimal l ∷ []
answer_pieces (answers.To c) = codes "to" ∷ decimal c ∷ []
answer_pieces (answers.New n) = codes "new" ∷ decimal n ∷ []
answer_pieces (answers.Left n) = codes "left" ∷ decimal n ∷ []
answer_pieces (answers.Work w) = codes "work" ∷ decimal w ∷ []
answer_pieces answers.HandFull = refused (codes "HandFull" ∷ [])
answer_pieces answers.HandEmpty = refused (codes "HandEmpty" ∷ [])
answer_pieces answers.NameUsed = refused (codes "NameUsed" ∷ [])
answer_pieces answers.NoRoom = refused (codes "NoRoom" ∷ [])
answer_pieces (answers.NotBlocked place) = refused (codes "NotBlocked" ∷ place_pieces place)
answer_pieces (answers.NotQueued place) = refused (codes "NotQueued" ∷ place_pieces place)
answer_pieces answers.OwnCluster = refused (codes "OwnCluster" ∷ [])
answer_pieces answers.NotAllowed = refused (codes "NotAllowed" ∷ [])
answer_pieces (answers.LookFirst c) = refused (codes "LookFirst" ∷ decimal c ∷ [])

-- the text of an answer
abbrev pub answer_text : Answer → List ℕ
answer_text a = spaced (answer_pieces a)

-- a place, read from the pieces after its word
abbrev pub PlaceReading : Type 0
PlaceReading = List (List ℕ) → Reading Place

-- an answer, read from the pieces after its word
abbrev pub AnswerReading : Type 0
AnswerReading = List (List ℕ) → Reading Answer

-- a queue, from its cluster on
abbrev pub queue_at : PlaceReading
queue_at ps = made_of (λ c. places.Queue c) (cluster_at ps)

-- a hand, from its actor on
abbrev pub hand_at_actor : PlaceReading
hand_at_actor ps = made_of (λ a. places.Hand a) (actor_at ps)

-- a place that is its word alone
abbrev pub lone_place : Place → PlaceReading
lone_place place ps = Ok (place, ps)

-- the words of the places
abbrev pub place_words : List (Worded PlaceReading)
place_words =
    worded (codes "q") queue_at
    ∷ worded (codes "hand") hand_at_actor
    ∷ worded (codes "blocked") (lone_place places.Blocked)
    ∷ worded (codes "ended") (lone_place places.Ended)
    ∷ worded (codes "none") (lone_place places.Nowhere)
    ∷ []

-- a place, from its word on
abbrev pub place_at : List (List ℕ) → Reading Place
place_at ps = followed_by (next_piece (word_among place_words) ps) (λ arguments rest. arguments rest)

-- an answer that is its word alone
abbrev pub lone_answer : Answer → AnswerReading
lone_answer answer ps = Ok (answer, ps)

-- an answer with one number of at most so much
abbrev pub counted : (ℕ → Answer) → ℕ → AnswerReading
counted of most ps = made_of of (next_piece (number_within most) ps)

-- an answer with a place
abbrev pub placed : (Place → Answer) → AnswerReading
placed of ps = made_of of (place_at ps)

-- the words of the refusals
abbrev pub refusal_words : List (Worded AnswerReading)
refusal_words =
    worded (codes "HandFull") (lone_answer answers.HandFull)
    ∷ worded (codes "HandEmpty") (lone_answer answers.HandEmpty)
    ∷ worded (codes "NameUsed") (lone_answer answers.NameUsed)
    ∷ worded (codes "NoRoom") (lone_answer answers.NoRoom)
    ∷ worded (codes "NotBlocked") (placed (λ p. answers.NotBlocked p))
    ∷ worded (codes "NotQueued") (placed (λ p. answers.NotQueued p))
    ∷ worded (codes "OwnCluster") (lone_answer answers.OwnCluster)
    ∷ worded (codes "NotAllowed") (lone_answer answers.NotAllowed)
    ∷ worded (codes "LookFirst") (counted (λ c. answers.LookFirst c) (clusters_of_lines - 1))
    ∷ []

-- a refusal, from its word on
abbrev pub refusal_at : AnswerReading
refusal_at ps = followed_by (next_piece (word_among refusal_words) ps) (λ arguments rest. arguments rest)

-- the words of the answers
abbrev pub answer_words : List (Worded AnswerReading)
answer_words =
    worded (codes "ok") (lone_answer answers.Yes)
    ∷ worded (codes "pri") (counted (λ p. answers.Pri p) most_base)
    ∷ worded (codes "got") (counted (λ n. answers.Got n) most_of_32)
    ∷ worded (codes "-") (lone_answer answers.Empty)
    ∷ worded (codes "off") (lone_answer answers.Off)
    ∷ worded (codes "load") (counted (λ l. answers.Load l) most_of_32)
    ∷ worded (codes "to") (counted (λ c. answers.To c) (clusters_of_lines - 1))
    ∷ worded (codes "new") (counted (λ n. answers.New n) most_of_32)
    ∷ worded (codes "left") (counted (λ n. answers.Left n) most_of_32)
    ∷ worded (codes "work") (counted (λ w. answers.Work w) most_of_64)
    ∷ worded (codes "no") refusal_at
    ∷ []

-- an answer, from its word on
abbrev pub answer_at : List (List ℕ) → Reading Answer
answer_at ps = followed_by (next_piece (word_among answer_words) ps) (λ arguments rest. arguments rest)

-- a place as a kind with its numbers, so that two are the same where these are
abbrev pub place_key : Place → List ℕ
place_key (places.Queue c) = 0 ∷ c ∷ []
place_key (places.Hand a) = 1 ∷ a ∷ []
place_key places.Blocked = 2 ∷ []
place_key places.Ended = 3 ∷ []
place_key places.Nowhere = 4 ∷ []

-- an answer as a kind with its numbers, so that two are the same where these are
abbrev pub answer_key : Answer → List ℕ
answer_key answers.Yes = 0 ∷ []
answer_key (answers.Pri p) = 1 ∷ p ∷ []
answer_key (answers.Got name) = 2 ∷ name ∷ []
answer_key answers.Empty = 3 ∷ []
answer_key answers.Off = 4 ∷ []
answer_key (answers.Load l) = 5 ∷ l ∷ []
answer_key (answers.To c) = 6 ∷ c ∷ []
answer_key (answers.New n) = 7 ∷ n ∷ []
answer_key (answers.Left n) = 8 ∷ n ∷ []
answer_key (answers.Work w) = 9 ∷ w ∷ []
answer_key answers.HandFull = 10 ∷ []
answer_key answers.HandEmpty = 11 ∷ []
answer_key answers.NameUsed = 12 ∷ []
answer_key answers.NoRoom = 13 ∷ []
answer_key (answers.NotBlocked place) = 14 ∷ place_key place
answer_key (answers.NotQueued place) = 15 ∷ place_key place
answer_key answers.OwnCluster = 16 ∷ []
answer_key answers.NotAllowed = 17 ∷ []
answer_key (answers.LookFirst c) = 18 ∷ c ∷ []

-- whether two answers are the same
abbrev pub same_answer : Answer → Answer → Bool
same_answer a b = same_text (answer_key a) (answer_key b)
