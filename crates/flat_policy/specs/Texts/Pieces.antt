-- Lines as pieces between single spaces, and numerals. A fault is the first one from the left.
use Rattle.std.specs.List.{join_with_byte, list_all}
use Rattle.std.specs.Prelude.{Bool, Err, List, None, Ok, Option, Result, Some, [], codes, decimal, false, if◌then◌else◌, map, nat_le, not, true, ℕ, ◌&&◌, ◌*◌, ◌+◌, ◌-◌, ◌==◌, ◌^◌, ◌∷◌}
use Rattle.sched_base.specs.Limits.{clusters_of_lines, moment_limit, most_actors, most_base, most_groups}
use Rattle.sched_base.specs.declared.Bucket.{Bucket}
use Rattle.sched_base.specs.declared.Bucket.TheVariants.{Bg, Df, Fg, Ini, Ui, Ut}
use Rattle.flat_policy.specs.declared.texts.LineFault.{LineFault}
use Rattle.flat_policy.specs.Policy.Setup.{all_buckets}
use Rattle.flat_policy.specs.declared.texts.LineFault.TheVariants as line_faults

-- a byte before the first of some pieces
abbrev pub before_piece : ℕ → List (List ℕ) → List (List ℕ)
before_piece b [] = (b ∷ []) ∷ []
before_piece b (p ∷ ps) = (b ∷ p) ∷ ps

-- the pieces of a line: what stands between single spaces; there is at least one, which may be empty
abbrev pub pieces : List ℕ → List (List ℕ)
pieces [] = [] ∷ []
pieces (b ∷ bs) = if b == 32 then [] ∷ pieces bs else before_piece b (pieces bs)

-- the line of some pieces
abbrev pub spaced : List (List ℕ) → List ℕ
spaced ps = join_with_byte 32 ps

-- whether two texts are the same
abbrev pub same_text : List ℕ → List ℕ → Bool
same_text [] [] = true
same_text [] (c ∷ cs) = false
same_text (b ∷ bs) [] = false
same_text (b ∷ bs) (c ∷ cs) = (b == c) && same_text bs cs

-- whether a byte is a digit
abbrev pub is_digit : ℕ → Bool
is_digit b = nat_le 48 b && nat_le b 57

-- the value of a digit
abbrev pub digit_value : ℕ → ℕ
digit_value b = b - 48

-- a numeral is one digit, or digits that begin with none of 0
abbrev pub is_numeral : List ℕ → Bool
is_numeral [] = false
is_numeral (b ∷ []) = is_digit b
is_numeral (b ∷ c ∷ bs) = (is_digit b && not (b == 48)) && list_all is_digit (c ∷ bs)

-- the number that some digits write behind those of another
abbrev pub number_after : ℕ → List ℕ → ℕ
number_after n [] = n
number_after n (b ∷ bs) = number_after (n * 10 + digit_value b) bs

-- the number that a numeral writes
abbrev pub numeral_value : List ℕ → ℕ
numeral_value p = number_after 0 p

-- a piece as a number of at most so much
abbrev pub number_within : ℕ → List ℕ → Result ℕ LineFault
number_within most p =
    if not (is_numeral p) then Err line_faults.Number
    else (if nat_le (numeral_value p) most then Ok (numeral_value p) else Err line_faults.Range)

-- going on with what was read, unless there was a fault
abbrev pub and_then : {A B : Type 0} → Result A LineFault → (A → Result B LineFault) → Result B LineFault
and_then (Ok x) f = f x
and_then (Err e) f = Err e

-- a value that was read, and the pieces after it
abbrev pub Reading : Type 0 → Type 0
Reading A = Result (A × List (List ℕ)) LineFault

-- the next piece, read; a piece too few is a fault of words
abbrev pub next_piece : {A : Type 0} → (List ℕ → Result A LineFault) → List (List ℕ) → Reading A
next_piece of [] = Err line_faults.Word
next_piece of (p ∷ ps) = and_then (of p) (λ x. Ok (x, ps))

-- a value read, made into another
abbrev pub made_of : {A B : Type 0} → (A → B) → Reading A → Reading B
made_of f r = and_then r (λ x. Ok (f x.0, x.1))

-- a value read, and another from the pieces after it
abbrev pub followed_by : {A B : Type 0} → Reading A → (A → List (List ℕ) → Reading B) → Reading B
followed_by r f = and_then r (λ x. f x.0 x.1)

-- no piece is left
abbrev pub at_end : {A : Type 0} → A → List (List ℕ) → Result A LineFault
at_end x [] = Ok x
at_end x (p ∷ ps) = Err line_faults.Word

-- a word, and what it stands for
pub record Worded (A : Type 0) : Type 0 where
  pub word : List ℕ
  pub value : A

-- a word and a value, put together
abbrev pub worded : {A : Type 0} → List ℕ → A → Worded A
worded word value = record { word = word; value = value }

-- the value of a word among some
abbrev pub value_of_word : {A : Type 0} → List (Worded A) → List ℕ → Option A
value_of_word [] p = None
value_of_word (w ∷ ws) p = if same_text w.word p then Some w.value else value_of_word ws p

-- a value, or the fault that there is none
abbrev pub or_word_fault : {A : Type 0} → Option A → Result A LineFault
or_word_fault None = Err line_faults.Word
or_word_fault (Some x) = Ok x

-- a piece as one of some words
abbrev pub word_among : {A : Type 0} → List (Worded A) → List ℕ → Result A LineFault
word_among ws p = or_word_fault (value_of_word ws p)

-- the greatest number of 32 bits
abbrev pub most_of_32 : ℕ
most_of_32 = 2 ^ 32 - 1

-- the greatest number of 64 bits
abbrev pub most_of_64 : ℕ
most_of_64 = 2 ^ 64 - 1

-- the next piece as a name
abbrev pub name_at : List (List ℕ) → Reading ℕ
name_at ps = next_piece (number_within most_of_32) ps

-- the next piece as a cluster
abbrev pub cluster_at : List (List ℕ) → Reading ℕ
cluster_at ps = next_piece (number_within (clusters_of_lines - 1)) ps

-- the next piece as a group
abbrev pub group_at : List (List ℕ) → Reading ℕ
group_at ps = next_piece (number_within (most_groups - 1)) ps

-- the next piece as a base
abbrev pub base_at : List (List ℕ) → Reading ℕ
base_at ps = next_piece (number_within most_base) ps

-- the next piece as a moment
abbrev pub moment_at : List (List ℕ) → Reading ℕ
moment_at ps = next_piece (number_within (moment_limit - 1)) ps

-- the next piece as an actor
abbrev pub actor_at : List (List ℕ) → Reading ℕ
actor_at ps = next_piece (number_within (most_actors - 1)) ps

-- a piece as a cluster that a thread is bound to, or as `-`
abbrev pub bound_within : List ℕ → Result (Option ℕ) LineFault
bound_within p = if same_text p (codes "-") then Ok None else and_then (number_within (clusters_of_lines - 1) p) (λ c. Ok (Some c))

-- the next piece as a cluster that a thread is bound to, or as `-`
abbrev pub bound_at : List (List ℕ) → Reading (Option ℕ)
bound_at ps = next_piece bound_within ps

-- the piece of a cluster that a thread is bound to, or of none
abbrev pub bound_piece : Option ℕ → List ℕ
bound_piece None = codes "-"
bound_piece (Some c) = decimal c

-- the word of a bucket
abbrev pub bucket_piece : Bucket → List ℕ
bucket_piece Ui = codes "UI"
bucket_piece Fg = codes "FG"
bucket_piece Ini = codes "IN"
bucket_piece Df = codes "DF"
bucket_piece Ut = codes "UT"
bucket_piece Bg = codes "BG"

-- the words of the buckets
abbrev pub bucket_words : List (Worded Bucket)
bucket_words = map (λ b. worded (bucket_piece b) b) all_buckets

-- the next piece as a bucket
abbrev pub bucket_at : List (List ℕ) → Reading Bucket
bucket_at ps = next_piece (word_among bucket_words) ps

-- the word of the end of a queue that is entered: true for the head
abbrev pub end_piece : Bool → List ℕ
end_piece true = codes "head"
end_piece false = codes "tail"

-- the words of the two ends
abbrev pub end_words : List (Worded Bool)
end_words = worded (end_piece true) true ∷ worded (end_piece false) false ∷ []

-- the next piece as an end of a queue
abbrev pub end_at : List (List ℕ) → Reading Bool
end_at ps = next_piece (word_among end_words) ps
