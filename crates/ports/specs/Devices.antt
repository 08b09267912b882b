-- What a call of a source or a sink may answer, and why.
use Rattle.std.specs.Prelude.{◌≡◌, ℕ, ◌+◌, ◌-◌, ◌^◌, ◌<◌, ◌≤◌, ◌↔◌, min, length, take, Bool, true, false, List, [], ⊤, IfOk, OnOk, OnErr, Result, Option, None, Some}
use Rattle.std.specs.Io.KnownBytes.{Appends}

-- one more, up to the last value that a u64 has
abbrev pub one_more : ℕ → ℕ
one_more n = min (n + 1) (2 ^ 64 - 1)

-- the count of faults rose, or stands at the last value that a u64 has
abbrev pub Rose : ℕ → ℕ → Type 0
Rose before now = one_more before ≤ now

-- the count of faults never falls, and a failure is answered only where it rose
pub record HasCause {T E : Type 0} (before now : ℕ) (r : Result T E) : Type 0 where
  pub later : before ≤ now
  pub failed : OnErr r (Rose before now)

-- a failure raises the count by one and nothing else changes it, and the device is failing exactly behind a failure
pub record CountsFailures {T E : Type 0} (before now : ℕ) (failing : Bool) (r : Result T E) : Type 0 where
  pub ok : OnOk r ((now ≡ before) × (failing ≡ false))
  pub failed : OnErr r ((now ≡ one_more before) × (failing ≡ true))

-- where the bytes to come are told, 0 is answered exactly where none is left
abbrev pub EndsRightly : {E : Type 0} → Option (List ℕ) → Result ℕ E → Type 0
EndsRightly None r = ⊤
EndsRightly (Some xs) r = IfOk r (λ n. (n ≡ 0) ↔ (xs ≡ []))

-- at least 1 of so many bytes was taken, and no more than there are
abbrev pub TakesSome : {E : Type 0} → Result ℕ E → ℕ → Type 0
TakesSome r len = IfOk r (λ n. (1 ≤ n) × (n ≤ len))

-- of a device that counts its failures exactly: where calls one after another fail, one did, and no call followed it
pub record StopsAtFailure {T E : Type 0} (before now : ℕ) (failing : Bool) (r : Result T E) : Type 0 where
  pub ok : OnOk r (now ≡ before)
  pub failed : OnErr r ((now ≡ one_more before) × (failing ≡ true))

-- the known bytes grow by the first few of a text, and not by all of it
abbrev pub AppendsPart : Option (List ℕ) → Option (List ℕ) → List ℕ → Type 0
AppendsPart old new text = (n : ℕ) × (n < length text) × Appends old new (take n text)
