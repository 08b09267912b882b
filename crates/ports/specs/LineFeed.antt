-- What a feed of lines answers, by the bytes.
use Rattle.std.specs.Prelude.{◌≡◌, ℕ, ◌+◌, ◌-◌, ◌<◌, ◌≤◌, Bool, List, [], ◌∷◌, ◌++◌, length, true, false, Option}
use Rattle.std.specs.Io.KnownBytes.{IsAtEnd, prepend_known}
use Rattle.sched_base.specs.Limits.{input_bytes}
use Rattle.ports.specs.Devices.{Rose, one_more}
use Rattle.ports.specs.Feeds.{Feed}
use Rattle.ports.specs.Lines.{HasNoNewline, IsLong, IsOver, IsOpen}
use Rattle.ports.specs.declared.line_feed.Fed.{Fed}
use Rattle.ports.specs.declared.line_feed.Fed.TheVariants.{Line, Long, Unfinished, End, Fault, Over}

-- how many of the bytes behind those given still count
abbrev pub counted : Feed → ℕ
counted feed = input_bytes - feed.passed

-- a line was given that is within the limit, and it and its newline count
pub record GivesLine (limit : ℕ) (feed : Feed) : Type 0 where
  pub plain : HasNoNewline feed.line
  pub short : length feed.line ≤ limit
  pub counts : feed.passed ≤ input_bytes
  pub open_still : feed.done ≡ false

-- no line was given, and none will be
pub record Stops (feed : Feed) : Type 0 where
  pub no_line : feed.line ≡ []
  pub done : feed.done ≡ true

-- each answer, where the bytes meet it: `left` is what the source has still to give, and its faults were `before` and are `now`
abbrev pub IsFed : ℕ → Option (List ℕ) → ℕ → ℕ → Feed → Fed → Type 0
IsFed limit left before now feed Line = GivesLine limit feed
IsFed limit left before now feed Long = Stops feed × IsLong limit (counted feed) feed.held
IsFed limit left before now feed Over = Stops feed × IsOver limit (counted feed) feed.held
IsFed limit left before now feed Unfinished = Stops feed × IsOpen limit (counted feed) feed.held × (0 < length feed.held) × IsAtEnd left
IsFed limit left before now feed End = Stops feed × (feed.held ≡ []) × IsAtEnd left
IsFed limit left before now feed Fault = Stops feed × IsOpen limit (counted feed) feed.held × Rose before now

-- the next answer is at hand: the bytes that were taken decide it
abbrev pub IsAtHand : ℕ → Feed → Type 0
IsAtHand limit feed = ¬ (IsOpen limit (counted feed) feed.held)

-- over a source that counts its failures exactly: one take failed and no take followed it where a fault is answered, and
-- none failed where anything else is
abbrev pub CountsFault : ℕ → ℕ → Bool → Fed → Type 0
CountsFault before now failing Line = now ≡ before
CountsFault before now failing Long = now ≡ before
CountsFault before now failing Over = now ≡ before
CountsFault before now failing Unfinished = now ≡ before
CountsFault before now failing End = now ≡ before
CountsFault before now failing Fault = (now ≡ one_more before) × (failing ≡ true)

-- the bytes that are not given yet: those in hand, and those still to come, where they are told
abbrev pub bytes_ahead : Feed → Option (List ℕ) → Option (List ℕ)
bytes_ahead feed left = prepend_known feed.held left

-- the bytes that an answer gives away: a line and its newline, or none
abbrev pub given_by : Feed → Fed → List ℕ
given_by feed Line = feed.line ++ 10 ∷ []
given_by feed Long = []
given_by feed Over = []
given_by feed Unfinished = []
given_by feed End = []
given_by feed Fault = []

-- those bytes, and the ones in hand behind them
abbrev pub in_hand : Feed → Fed → List ℕ
in_hand feed answer = given_by feed answer ++ feed.held

-- how many bytes of the input it took to decide the answer
abbrev pub decided_by : ℕ → Feed → Fed → ℕ
decided_by limit feed Line = feed.passed
decided_by limit feed Long = feed.passed + limit + 1
decided_by limit feed Over = input_bytes + 1
decided_by limit feed Unfinished = feed.passed + length feed.held
decided_by limit feed End = feed.passed + length feed.held
decided_by limit feed Fault = feed.passed + length feed.held
