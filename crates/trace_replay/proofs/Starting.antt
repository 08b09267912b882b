-- The setup line of a replay, and what stands in its place.
use Rattle.std.proofs.Common.{◌≡◌, ◌≢◌, ◌∙◌, ℕ, ◌+◌, ◌-◌, ◌≤◌, List, [], ◌∷◌, ◌++◌, Option, None, Some, Result, Err, Ok, Bool, drop, length, length-append, take, arith, ap, append-nil, refl, sym, subst, inl, inr, false}
use Rattle.std.proofs.lemmas.Bool.Decides.{nat_tests}
use Rattle.std.proofs.lemmas.List.{take-append-drop, take_all}
use Rattle.std.specs.Io.KnownBytes.{Appends, Consumes, IsAtEnd}
use Rattle.std.specs.Prelude.{IfErr, IfOk}
use Rattle.sched_base.specs.Limits.{input_bytes, piece_bytes}
use Rattle.flat_policy.specs.Policy.Machine.{empty_machine}
use Rattle.flat_policy.specs.Policy.Setup.{SetupParts}
use Rattle.flat_policy.specs.Texts.Lines.{newline}
use Rattle.flat_policy.specs.Texts.SetupLines.{read_setup_text, setup_text}
use Rattle.flat_policy.specs.Texts.Streams.{bad_setup, end_met, fault_met, read_setup_line, setup_limit, status_at_stop}
use Rattle.flat_policy.specs.declared.texts.SetupFault.{SetupFault}
use Rattle.flat_policy.specs.declared.texts.SetupFault.TheVariants as setup_faults
use Rattle.ports.specs.Feeds.{Feed}
use Rattle.ports.specs.LineFeed.{bytes_ahead, given_by}
use Rattle.ports.specs.Lines.{HasNoNewline, IsLong, IsOpen}
use Rattle.ports.specs.declared.line_feed.Fed.{Fed}
use Rattle.ports.specs.declared.line_feed.Fed.TheVariants as fed
use Rattle.trace_replay.specs.Firsts.{IsFirstLine, ReadsSetup, StopsBegin, StopsFirst}
use Rattle.trace_replay.specs.Replaying.{ComesTo}
use Rattle.trace_replay.specs.SoFar.{SoFar}
use Rattle.trace_replay.specs.Statuses.{HasReadCause, ReadsExactly}
use Rattle.trace_replay.specs.Traces.{IsBegun, TraceView}
use Rattle.trace_replay.specs.UnderWay.{HasEnded, IsUnderWay}
use Rattle.trace_replay.specs.declared.status.ReplayStatus.{ReplayStatus}
use Rattle.trace_replay.specs.declared.status.ReplayStatus.TheVariants as statuses
use Rattle.trace_replay.proofs.Beginning.{first_undecided, long_setup_decides, long_setup_decides_late, open_first_comes, setup_decides, setup_decides_late, so_far_begin}
use Rattle.trace_replay.proofs.Ending.{front_so_far, read_to}
use Rattle.trace_replay.proofs.Going.{whole_line}
use Rattle.trace_replay.proofs.Turns.{Fetched, consumes_held}

-- a feed that took nothing yet
abbrev pub fresh : Feed
fresh = record { line = []; held = []; passed = 0; done = false }

nothing_ahead : (left : Option (List ℕ)) → bytes_ahead fresh left ≡ left
nothing_ahead None = refl
nothing_ahead (Some xs) = refl

first_consumed : (new : Feed) (before left : Option (List ℕ)) (was now : ℕ) (r : Fed) → Fetched setup_limit fresh new before left was now r → Consumes before (bytes_ahead new left) (given_by new r)
first_consumed new before left was now r f = subst (λ a. Consumes a (bytes_ahead new left) (given_by new r)) (nothing_ahead before) f.bytes

short_line : (line : List ℕ) → length line ≤ setup_limit → read_setup_line line ≡ read_setup_text line
short_line line short = grind (arith, nat_tests)

-- a line was given, and states a setup
pub first_given : (setup : SetupParts) (new : Feed) (before left : Option (List ℕ)) (was now : ℕ) → Fetched setup_limit fresh new before left was now fed.Line
    → read_setup_text new.line ≡ Ok setup → IsFirstLine setup before new left
first_given setup new before left was now f reads = record {
  reads = short_line new.line f.fed.short ∙ reads;
  plain = f.fed.plain;
  short = f.fed.short;
  passed = omega (arith, f.passed, length-append new.line (10 ∷ []));
  few = omega (arith, f.ahead);
  open_still = f.fed.open_still;
  consumed = first_consumed new before left was now fed.Line f;
}

-- it counts
first_counts : (new : Feed) (before left : Option (List ℕ)) (was now : ℕ) → Fetched setup_limit fresh new before left was now fed.Line → length new.line + 1 ≤ input_bytes
first_counts new before left was now f = omega (arith, f.fed.counts, f.passed, length-append new.line (10 ∷ []))

-- it has a fault
pub first_bad : (what : SetupFault) (new : Feed) (before left : Option (List ℕ)) (was now : ℕ) → Fetched setup_limit fresh new before left was now fed.Line
    → read_setup_text new.line ≡ Err what → StopsFirst before left (statuses.BadSetup what)
first_bad what new before left was now f reads = record {
  bytes = whole_line new.line ++ new.held;
  consumed = consumes_held before left new (whole_line new.line) (first_consumed new before left was now fed.Line f);
  replays = record {
    decided = inl (setup_decides new.line new.held what f.fed.plain (first_counts new before left was now f) (short_line new.line f.fed.short ∙ reads));
    late = setup_decides_late new.line new.held f.fed.plain f.fed.short (omega (arith, f.ahead));
  };
}

-- memory ran out
pub first_memory : (new : Feed) (before left : Option (List ℕ)) (was now : ℕ) → Fetched setup_limit fresh new before left was now fed.Line → StopsFirst before left statuses.OutOfMemory
first_memory new before left was now f = record {
  bytes = whole_line new.line ++ new.held;
  consumed = consumes_held before left new (whole_line new.line) (first_consumed new before left was now fed.Line f);
  replays = refl;
}

-- a setup was read from it
pub first_ok : (r : Result SetupParts ReplayStatus) (new : Feed) (before left : Option (List ℕ)) (was now : ℕ) → Fetched setup_limit fresh new before left was now fed.Line
    → ReadsSetup new.line r → IfOk r (λ setup. IsFirstLine setup before new left)
first_ok (Ok setup) new before left was now f reads = first_given setup new before left was now f reads
first_ok (Err status) new before left was now f reads = tt

-- none was read from it
pub first_err : (r : Result SetupParts ReplayStatus) (new : Feed) (before left : Option (List ℕ)) (was now : ℕ) → Fetched setup_limit fresh new before left was now fed.Line
    → ReadsSetup new.line r → IfErr r (λ status. StopsFirst before left status)
first_err (Ok setup) new before left was now f reads = tt
first_err (Err (statuses.BadSetup what)) new before left was now f reads = first_bad what new before left was now f reads
first_err (Err statuses.OutOfMemory) new before left was now f reads = first_memory new before left was now f
first_err (Err statuses.Done) new before left was now f reads = absurd reads
first_err (Err statuses.Usage) new before left was now f reads = absurd reads
first_err (Err (statuses.BadLine line what)) new before left was now f reads = absurd reads
first_err (Err (statuses.Differs line)) new before left was now f reads = absurd reads
first_err (Err statuses.TooLong) new before left was now f reads = absurd reads
first_err (Err statuses.ReadFault) new before left was now f reads = absurd reads
first_err (Err statuses.WriteFault) new before left was now f reads = absurd reads

-- no take failed
pub first_quiet : (r : Result SetupParts ReplayStatus) (line : List ℕ) (before now : ℕ) (failing : Bool) → ReadsSetup line r
    → IfErr r (λ status. HasReadCause before now status × (now ≡ before → ReadsExactly before now failing status))
first_quiet (Ok setup) line before now failing reads = tt
first_quiet (Err (statuses.BadSetup what)) line before now failing reads = (tt, λ same. same)
first_quiet (Err statuses.OutOfMemory) line before now failing reads = (tt, λ same. same)
first_quiet (Err statuses.Done) line before now failing reads = absurd reads
first_quiet (Err statuses.Usage) line before now failing reads = absurd reads
first_quiet (Err (statuses.BadLine l what)) line before now failing reads = absurd reads
first_quiet (Err (statuses.Differs l)) line before now failing reads = absurd reads
first_quiet (Err statuses.TooLong) line before now failing reads = absurd reads
first_quiet (Err statuses.ReadFault) line before now failing reads = absurd reads
first_quiet (Err statuses.WriteFault) line before now failing reads = absurd reads

-- nor a put
pub first_unlike : (r : Result SetupParts ReplayStatus) (line : List ℕ) → ReadsSetup line r → IfErr r (λ status. status ≢ statuses.WriteFault)
first_unlike (Ok setup) line reads = tt
first_unlike (Err (statuses.BadSetup what)) line reads = λ same. cc
first_unlike (Err statuses.OutOfMemory) line reads = λ same. cc
first_unlike (Err statuses.Done) line reads = absurd reads
first_unlike (Err statuses.Usage) line reads = absurd reads
first_unlike (Err (statuses.BadLine l what)) line reads = absurd reads
first_unlike (Err (statuses.Differs l)) line reads = absurd reads
first_unlike (Err statuses.TooLong) line reads = absurd reads
first_unlike (Err statuses.ReadFault) line reads = absurd reads
first_unlike (Err statuses.WriteFault) line reads = absurd reads

-- no line was given
held_first : (new : Feed) (before left : Option (List ℕ)) → Consumes before (bytes_ahead new left) [] → Consumes before left new.held
held_first new before left taken = consumes_held before left new [] taken

pub first_long : (new : Feed) (before left : Option (List ℕ)) (was now : ℕ) → Fetched setup_limit fresh new before left was now fed.Long → StopsFirst before left (statuses.BadSetup setup_faults.Long)
first_long new before left was now f =
    let none : new.passed ≡ 0 = omega (arith, f.passed) in
    let long = subst (λ n. IsLong setup_limit (input_bytes - n) new.held) none f.fed.1 in
    record {
      bytes = new.held;
      consumed = held_first new before left (first_consumed new before left was now fed.Long f);
      replays = record { decided = inl (long_setup_decides new.held long); late = long_setup_decides_late new.held long (omega (arith, f.ahead)) };
    }

unfinished_first : (held : List ℕ) → status_at_stop end_met (bad_setup setup_faults.Unfinished) held (bad_setup setup_faults.Unfinished) ≡ bad_setup setup_faults.Unfinished
unfinished_first [] = refl
unfinished_first (b ∷ held) = refl

-- the input ends in the first line
ends_first : (new : Feed) (before left : Option (List ℕ)) → Consumes before (bytes_ahead new left) [] → IsOpen setup_limit (input_bytes - 0) new.held → IsAtEnd left
    → StopsFirst before left (statuses.BadSetup setup_faults.Unfinished)
ends_first new before left taken still ended = record {
  bytes = new.held;
  consumed = held_first new before left taken;
  replays = record {
    decided = inr (record {
      ended = ended;
      within = omega (arith, still.counts);
      comes = subst (ComesTo new.held end_met []) (unfinished_first new.held) (open_first_comes new.held end_met still);
    });
    late =
        first_undecided new.held (length new.held) (length new.held - piece_bytes)
        (subst HasNoNewline (sym (take_all (length new.held) new.held (omega arith))) still.plain) still.short (omega arith);
  };
}

pub first_unfinished : (new : Feed) (before left : Option (List ℕ)) (was now : ℕ) → Fetched setup_limit fresh new before left was now fed.Unfinished
    → StopsFirst before left (statuses.BadSetup setup_faults.Unfinished)
first_unfinished new before left was now f =
    let none : new.passed ≡ 0 = omega (arith, f.passed) in
    ends_first new before left (first_consumed new before left was now fed.Unfinished f) (subst (λ n. IsOpen setup_limit (input_bytes - n) new.held) none f.fed.1) f.fed.3

pub first_end : (new : Feed) (before left : Option (List ℕ)) (was now : ℕ) → Fetched setup_limit fresh new before left was now fed.End
    → StopsFirst before left (statuses.BadSetup setup_faults.Unfinished)
first_end new before left was now f =
    let nothing : length new.held ≡ 0 = ap (λ (bs : List ℕ). length bs) f.fed.1 in
    ends_first new before left (first_consumed new before left was now fed.End f)
    (record { short = omega (arith, nothing); counts = omega (arith, nothing); plain = λ i d below is. absurd (omega (arith, below, nothing)) }) f.fed.2

pub first_fault : (new : Feed) (before left : Option (List ℕ)) (was now : ℕ) → Fetched setup_limit fresh new before left was now fed.Fault → StopsFirst before left statuses.ReadFault
first_fault new before left was now f =
    let none : new.passed ≡ 0 = omega (arith, f.passed) in
    let still = subst (λ n. IsOpen setup_limit (input_bytes - n) new.held) none f.fed.1 in
    record {
      bytes = new.held;
      consumed = held_first new before left (first_consumed new before left was now fed.Fault f);
      replays = (omega (arith, still.counts), open_first_comes new.held fault_met still);
    }

pub first_over : (new : Feed) (before left : Option (List ℕ)) (was now : ℕ) → Fetched setup_limit fresh new before left was now fed.Over → StopsFirst before left statuses.TooLong
first_over new before left was now f = absurd (omega (arith, f.fed.1.short, f.passed))

-- ---- the replay begins, or not

appends_nothing : (a : Option (List ℕ)) → Appends a a []
appends_nothing None = tt
appends_nothing (Some xs) = sym (append-nil xs)

consumes_nothing : (a : Option (List ℕ)) → Consumes a a []
consumes_nothing None = tt
consumes_nothing (Some xs) = refl

-- nothing is done
pub ends_at_once : (left taken : Option (List ℕ)) → HasEnded left taken left taken statuses.OutOfMemory
ends_at_once left taken = record { bytes = []; text = []; consumed = consumes_nothing left; written = appends_nothing taken; replays = refl }

-- without a setup
pub ends_first_line : (before left taken : Option (List ℕ)) (status : ReplayStatus) → StopsFirst before left status → HasEnded before taken left taken status
ends_first_line before left taken status stops =
    record { bytes = stops.bytes; text = []; consumed = stops.consumed; written = appends_nothing taken; replays = stops.replays }

lines_begin : (setup : SetupParts) (feed : Feed) (before left : Option (List ℕ)) → IsFirstLine setup before feed left
    → SoFar setup (whole_line feed.line) (setup_text setup ++ newline) 2 (empty_machine setup)
lines_begin setup feed before left first = so_far_begin feed.line setup first.plain first.short (omega (arith, first.short)) first.reads

taken_first : (setup : SetupParts) (feed : Feed) (before left : Option (List ℕ)) → IsFirstLine setup before feed left → Consumes before left (whole_line feed.line ++ feed.held)
taken_first setup feed before left first = consumes_held before left feed (whole_line feed.line) first.consumed

-- it does not begin
pub ends_beginning : (setup : SetupParts) (feed : Feed) (before left taken now : Option (List ℕ)) (status : ReplayStatus) → IsFirstLine setup before feed left
    → StopsBegin setup taken now status → HasEnded before taken left now status
ends_beginning setup feed before left taken now statuses.WriteFault first part =
    let text : List ℕ = setup_text setup ++ newline in
    let n : ℕ = part.0 in
    let so = lines_begin setup feed before left first in
    record {
      bytes = whole_line feed.line ++ feed.held;
      text = take n text;
      consumed = taken_first setup feed before left first;
      written = part.2;
      replays = (
        front_so_far setup (whole_line feed.line) text 2 (empty_machine setup) feed.held (take n text) (drop n text) so (sym (take-append-drop n text)),
        inr (length (whole_line feed.line), read_to setup (whole_line feed.line) text 2 (empty_machine setup) feed.held so first.few),
      );
    }
ends_beginning setup feed before left taken now statuses.OutOfMemory first same = record {
  bytes = whole_line feed.line ++ feed.held;
  text = [];
  consumed = taken_first setup feed before left first;
  written = subst (λ a. Appends taken a []) (sym same) (appends_nothing taken);
  replays = refl;
}
ends_beginning setup feed before left taken now statuses.Done first stops = absurd stops
ends_beginning setup feed before left taken now statuses.Usage first stops = absurd stops
ends_beginning setup feed before left taken now (statuses.BadSetup what) first stops = absurd stops
ends_beginning setup feed before left taken now (statuses.BadLine line what) first stops = absurd stops
ends_beginning setup feed before left taken now (statuses.Differs line) first stops = absurd stops
ends_beginning setup feed before left taken now statuses.TooLong first stops = absurd stops
ends_beginning setup feed before left taken now statuses.ReadFault first stops = absurd stops

-- it begins
pub way_begins : (setup : SetupParts) (t : TraceView) (feed : Feed) (before left taken now : Option (List ℕ)) → IsFirstLine setup before feed left → IsBegun setup t
    → Appends taken now (setup_text setup ++ newline) → IsUnderWay before taken t feed left now
way_begins setup t feed before left taken now first begun written =
    let text : List ℕ = setup_text setup ++ newline in
    let so = lines_begin setup feed before left first in
    let long : length (whole_line feed.line) ≡ length feed.line + 1 = length-append feed.line (10 ∷ []) in
    let page : text ≡ text ++ t.page = sym (append-nil text) ∙ ap (λ p. text ++ p) (sym begun.page) in
    record {
      bytes = whole_line feed.line;
      put = text;
      state = empty_machine setup;
      means = begun.means;
      lines =
          subst (λ s. SoFar s (whole_line feed.line) (text ++ t.page) t.line (empty_machine setup)) (sym begun.setup)
          (subst (λ n. SoFar setup (whole_line feed.line) (text ++ t.page) n (empty_machine setup)) (sym begun.line)
          (subst (λ x. SoFar setup (whole_line feed.line) x 2 (empty_machine setup)) page so));
      steps = omega (arith, begun.steps, begun.line);
      number = omega (arith, begun.line, long);
      passed = omega (arith, first.passed, long);
      few = first.few;
      open_still = first.open_still;
      consumed = first.consumed;
      written = written;
    }
