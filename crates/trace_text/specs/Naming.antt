-- The words that lines of acts, places, refusals, answers and runs begin with, each by a name, and what is read behind it.
use Rattle.std.specs.Prelude.{List, [], codes, false, map, true, ℕ, ◌≡◌, ◌∷◌}
use Rattle.flat_policy.specs.Texts.Answers.{AnswerReading, PlaceReading, counted, hand_at_actor, lone_answer, lone_place, placed, queue_at, refusal_at}
use Rattle.flat_policy.specs.Texts.Lines.{RunReading, power_reading, thread_reading}
use Rattle.flat_policy.specs.Texts.Pieces.{Worded, most_of_32, most_of_64, worded}
use Rattle.trace_text.specs.Reading.{is_next}
use Rattle.trace_text.specs.declared.words.PlaceWord.{PlaceWord}
use Rattle.trace_text.specs.declared.words.RefusalWord.{RefusalWord}
use Rattle.trace_text.specs.declared.words.AnswerWord.{AnswerWord}
use Rattle.trace_text.specs.declared.words.RunWord.{RunWord}
use Rattle.sched_base.specs.declared.Answer.TheVariants as answers
use Rattle.sched_base.specs.declared.Place.TheVariants as places
use Rattle.trace_text.specs.declared.words.PlaceWord.TheVariants as place_words
use Rattle.trace_text.specs.declared.words.RefusalWord.TheVariants as refusal_words
use Rattle.trace_text.specs.declared.words.AnswerWord.TheVariants as answer_words
use Rattle.trace_text.specs.declared.words.RunWord.TheVariants as run_words

-- the words of some names, with what each name stands for
abbrev pub words_for : {W A : Type 0} → (W → A) → List (Worded W) → List (Worded A)
words_for of names = map (λ w. worded w.word (of w.value)) names

-- the next piece is none of the words that acts most often begin with
pub record NoFrequentAct (ps : List (List ℕ)) : Type 0 where
  pub select : is_next (codes "select") ps ≡ false
  pub enter : is_next (codes "enter") ps ≡ false
  pub looks : is_next (codes "look") ps ≡ false
  pub ran : is_next (codes "ran") ps ≡ false
  pub aim : is_next (codes "aim") ps ≡ false
  pub sleep : is_next (codes "sleep") ps ≡ false
  pub wake : is_next (codes "wake") ps ≡ false
  pub offer : is_next (codes "offer") ps ≡ false

-- the words of a place
abbrev pub place_names : List (Worded PlaceWord)
place_names =
    worded (codes "q") place_words.Queue
    ∷ worded (codes "hand") place_words.Hand
    ∷ worded (codes "blocked") place_words.Blocked
    ∷ worded (codes "ended") place_words.Ended
    ∷ worded (codes "none") place_words.Nowhere
    ∷ []

-- what is read behind the word of a place
abbrev pub place_behind : PlaceWord → PlaceReading
place_behind place_words.Queue = queue_at
place_behind place_words.Hand = hand_at_actor
place_behind place_words.Blocked = lone_place places.Blocked
place_behind place_words.Ended = lone_place places.Ended
place_behind place_words.Nowhere = lone_place places.Nowhere

-- the words of a refusal
abbrev pub refusal_names : List (Worded RefusalWord)
refusal_names =
    worded (codes "HandFull") refusal_words.HandFull
    ∷ worded (codes "HandEmpty") refusal_words.HandEmpty
    ∷ worded (codes "NameUsed") refusal_words.NameUsed
    ∷ worded (codes "NoRoom") refusal_words.NoRoom
    ∷ worded (codes "NotBlocked") refusal_words.NotBlocked
    ∷ worded (codes "NotQueued") refusal_words.NotQueued
    ∷ worded (codes "OwnCluster") refusal_words.OwnCluster
    ∷ worded (codes "NotAllowed") refusal_words.NotAllowed
    ∷ worded (codes "LookFirst") refusal_words.LookFirst
    ∷ []

-- what is read behind the word of a refusal
abbrev pub refusal_behind : RefusalWord → AnswerReading
refusal_behind refusal_words.HandFull = lone_answer answers.HandFull
refusal_behind refusal_words.HandEmpty = lone_answer answers.HandEmpty
refusal_behind refusal_words.NameUsed = lone_answer answers.NameUsed
refusal_behind refusal_words.NoRoom = lone_answer answers.NoRoom
refusal_behind refusal_words.NotBlocked = placed (λ p. answers.NotBlocked p)
refusal_behind refusal_words.NotQueued = placed (λ p. answers.NotQueued p)
refusal_behind refusal_words.OwnCluster = lone_answer answers.OwnCluster
refusal_behind refusal_words.NotAllowed = lone_answer answers.NotAllowed
refusal_behind refusal_words.LookFirst = counted (λ c. answers.LookFirst c) 15

-- the words of an answer
abbrev pub answer_names : List (Worded AnswerWord)
answer_names =
    worded (codes "ok") answer_words.Yes
    ∷ worded (codes "pri") answer_words.Pri
    ∷ worded (codes "got") answer_words.Got
    ∷ worded (codes "-") answer_words.Empty
    ∷ worded (codes "off") answer_words.Off
    ∷ worded (codes "load") answer_words.Load
    ∷ worded (codes "to") answer_words.To
    ∷ worded (codes "new") answer_words.New
    ∷ worded (codes "left") answer_words.Left
    ∷ worded (codes "work") answer_words.Work
    ∷ worded (codes "no") answer_words.No
    ∷ []

-- what is read behind the word of an answer
abbrev pub answer_behind : AnswerWord → AnswerReading
answer_behind answer_words.Yes = lone_answer answers.Yes
answer_behind answer_words.Pri = counted (λ p. answers.Pri p) 127
answer_behind answer_words.Got = counted (λ n. answers.Got n) most_of_32
answer_behind answer_words.Empty = lone_answer answers.Empty
answer_behind answer_words.Off = lone_answer answers.Off
answer_behind answer_words.Load = counted (λ l. answers.Load l) most_of_32
answer_behind answer_words.To = counted (λ c. answers.To c) 15
answer_behind answer_words.New = counted (λ n. answers.New n) most_of_32
answer_behind answer_words.Left = counted (λ n. answers.Left n) most_of_32
answer_behind answer_words.Work = counted (λ w. answers.Work w) most_of_64
answer_behind answer_words.No = refusal_at

-- the words of a line of a run
abbrev pub run_names : List (Worded RunWord)
run_names =
    worded (codes "thread") run_words.Thread
    ∷ worded (codes "off") run_words.Off
    ∷ worded (codes "on") run_words.On
    ∷ []

-- what is read behind the word of a line of a run
abbrev pub run_behind : RunWord → RunReading
run_behind run_words.Thread = thread_reading
run_behind run_words.Off = power_reading false
run_behind run_words.On = power_reading true
