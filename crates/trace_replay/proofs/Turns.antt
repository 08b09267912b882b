-- One turn of a replay: the next line of the feed, answered or stopped at.
use Rattle.std.proofs.Common.{◌≡◌, ◌≢◌, ◌∙◌, ℕ, suc, ◌+◌, ◌-◌, ◌<◌, ◌≤◌, List, [], ◌∷◌, ◌++◌, Option, None, Some, Err, Ok, Result, length, min, length-append, arith, ap, append_assoc, append-nil, refl, sym, subst, inl, inr}
use Rattle.std.proofs.lemmas.List.{length-take, take_all}
use Rattle.std.specs.Io.{StartsWith}
use Rattle.std.specs.Io.KnownBytes.{Consumes, IsAtEnd}
use Rattle.std.specs.Prelude.{IfErr, OnOk}
use Rattle.sched_base.specs.Limits.{input_bytes, piece_bytes}
use Rattle.flat_policy.specs.Policy.Machine.{MachineState, reply, state_after}
use Rattle.flat_policy.specs.Texts.Lines.{entry_text, line_limit}
use Rattle.flat_policy.specs.Texts.Streams.{Status, bad_line, differs, done, end_met, fault_met, status_at_stop, stopped}
use Rattle.flat_policy.specs.declared.texts.LineFault.TheVariants as line_faults
use Rattle.ports.specs.Feeds.{Feed}
use Rattle.ports.specs.LineFeed.{GivesLine, IsAtHand, IsFed, bytes_ahead, counted, decided_by, given_by, in_hand}
use Rattle.ports.specs.Lines.{HasNoNewline, IsLong, IsOpen, IsOver}
use Rattle.ports.specs.declared.line_feed.Fed.{Fed}
use Rattle.ports.specs.declared.line_feed.Fed.TheVariants as fed
use Rattle.trace_replay.specs.Replaying.{ComesTo, IsDecided, IsFaulty, IsFront, IsReadLittle}
use Rattle.trace_replay.specs.SoFar.{SoFar}
use Rattle.trace_replay.specs.Traces.{Answers, CanAnswer, CanEnd, Stays, StopsLine, TraceView, setup_of}
use Rattle.trace_replay.specs.UnderWay.{IsStopped, IsUnderWay}
use Rattle.trace_replay.specs.declared.status.ReplayStatus.{ReplayStatus}
use Rattle.trace_replay.specs.declared.status.ReplayStatus.TheVariants as statuses
use Rattle.trace_replay.proofs.Ending.{decided_fault, differing_line, faulty_line, front_so_far, line_decides, line_decides_late, long_decides, long_decides_late, open_comes, over_comes, read_to}
use Rattle.trace_replay.proofs.Going.{plain_front, so_far_next, still_undecided, whole_line}

-- bytes that are consumed one after the other
pub consumes_both : (a b c : Option (List ℕ)) (x y : List ℕ) → Consumes a b x → Consumes b c y → Consumes a c (x ++ y)
consumes_both None b c x y first then = tt
consumes_both (Some xs) None c x y first then = absurd first
consumes_both (Some xs) (Some ys) None x y first then = absurd then
consumes_both (Some xs) (Some ys) (Some zs) x y first then = first ∙ ap (λ bs. x ++ bs) then ∙ sym (append_assoc x y zs)

-- the bytes in hand are taken, too
pub consumes_held : (a left : Option (List ℕ)) (feed : Feed) (x : List ℕ) → Consumes a (bytes_ahead feed left) x → Consumes a left (x ++ feed.held)
consumes_held None left feed x taken = tt
consumes_held (Some xs) None feed x taken = taken
consumes_held (Some xs) (Some ys) feed x taken = taken ∙ sym (append_assoc x feed.held ys)

-- the next line was given
pub record Given (start begun : Option (List ℕ)) (t : TraceView) (old new : Feed) (before left taken : Option (List ℕ)) : Type 0 where
  pub way : IsUnderWay start begun t old before taken
  pub gives : GivesLine line_limit new
  pub consumed : Consumes (bytes_ahead old before) (bytes_ahead new left) (whole_line new.line)
  pub passed : new.passed ≡ old.passed + length (whole_line new.line)
  pub few : length new.held < piece_bytes

-- it counts
given_counts : (start begun : Option (List ℕ)) (t : TraceView) (old new : Feed) (before left taken : Option (List ℕ)) (g : Given start begun t old new before left taken)
    → length g.way.bytes + length new.line + 1 ≤ input_bytes
given_counts start begun t old new before left taken g =
    omega (arith, g.gives.counts, g.passed, g.way.passed, length-append new.line (10 ∷ []))

-- it is answered
pub turn_goes : (start begun : Option (List ℕ)) (t next : TraceView) (old new : Feed) (before left taken : Option (List ℕ)) → Given start begun t old new before left taken
    → Answers t next new.line → IsUnderWay start begun next new left taken
turn_goes start begun t next old new before left taken g answers =
    let way = g.way in
    let given = answers.0 in
    let takes = answers.2 in
    let goes = takes.goes way.state way.means in
    let entry : List ℕ = entry_text (reply (setup_of t) way.state given.step) in
    let h : MachineState = state_after (setup_of t) way.state given.step in
    let lines : SoFar (setup_of t) (way.bytes ++ whole_line new.line) ((way.put ++ t.page) ++ entry) (suc t.line) h =
    so_far_next (setup_of t) way.bytes (way.put ++ t.page) t.line way.state new.line given way.lines g.gives.plain g.gives.short
    (given_counts start begun t old new before left taken g) answers.1 goes.0 in
    let text : (way.put ++ t.page) ++ entry ≡ way.put ++ next.page = append_assoc way.put t.page entry ∙ ap (λ p. way.put ++ p) (sym goes.1) in
    let number : suc t.line ≡ next.line = omega (arith, takes.next) in
    let long : length (way.bytes ++ whole_line new.line) ≡ length way.bytes + length (whole_line new.line) = length-append way.bytes (whole_line new.line) in
    let one : length (whole_line new.line) ≡ length new.line + 1 = length-append new.line (10 ∷ []) in
    record {
      bytes = way.bytes ++ whole_line new.line;
      put = way.put;
      state = h;
      means = goes.2;
      lines =
          subst (λ s. SoFar s (way.bytes ++ whole_line new.line) (way.put ++ next.page) next.line h) (sym takes.setup)
          (subst (λ n. SoFar (setup_of t) (way.bytes ++ whole_line new.line) (way.put ++ next.page) n h) number
          (subst (λ x. SoFar (setup_of t) (way.bytes ++ whole_line new.line) x (suc t.line) h) text lines));
      steps = omega (arith, way.steps, takes.steps, takes.next);
      number = omega (arith, way.number, takes.next, long, one);
      passed = omega (arith, g.passed, way.passed, long);
      few = g.few;
      open_still = g.gives.open_still;
      consumed = consumes_both start (bytes_ahead old before) (bytes_ahead new left) way.bytes (whole_line new.line) way.consumed g.consumed;
      written = way.written;
    }

-- ---- it is not answered

-- the bytes that were taken up to a line, its newline and the bytes in hand
taken_by_line : (start begun : Option (List ℕ)) (t : TraceView) (old new : Feed) (before left taken : Option (List ℕ)) (g : Given start begun t old new before left taken)
    → Consumes start left (g.way.bytes ++ (whole_line new.line ++ new.held))
taken_by_line start begun t old new before left taken g =
    subst (Consumes start left) (append_assoc g.way.bytes (whole_line new.line) new.held)
    (consumes_held start left new (g.way.bytes ++ whole_line new.line)
    (consumes_both start (bytes_ahead old before) (bytes_ahead new left) g.way.bytes (whole_line new.line) g.way.consumed g.consumed))

-- where a line decides the status
stopped_by_line : (start begun : Option (List ℕ)) (t : TraceView) (old new : Feed) (before left taken : Option (List ℕ)) (status : Status) (g : Given start begun t old new before left taken)
    → IsDecided (g.way.bytes ++ (whole_line new.line ++ new.held)) (g.way.put ++ t.page) status
    → IsFaulty (g.way.bytes ++ (whole_line new.line ++ new.held)) (g.way.put ++ t.page) left status
stopped_by_line start begun t old new before left taken status g decided = record {
  decided = inl decided;
  late = line_decides_late (setup_of t) g.way.bytes (g.way.put ++ t.page) t.line g.way.state new.line new.held g.way.lines g.gives.plain g.gives.short g.few;
}

front_at_line : (start begun : Option (List ℕ)) (t : TraceView) (old new : Feed) (before left taken : Option (List ℕ)) (g : Given start begun t old new before left taken) (tail : List ℕ)
    → IsFront (g.way.bytes ++ tail) (g.way.put ++ t.page)
front_at_line start begun t old new before left taken g tail =
    front_so_far (setup_of t) g.way.bytes (g.way.put ++ t.page) t.line g.way.state tail (g.way.put ++ t.page) [] g.way.lines (sym (append-nil (g.way.put ++ t.page)))

-- why the line is not answered
pub turn_stops : (start begun : Option (List ℕ)) (t : TraceView) (old new : Feed) (before left taken : Option (List ℕ)) (page : List ℕ) (status : ReplayStatus)
    → Given start begun t old new before left taken → page ≡ t.page → StopsLine t new.line status → IsStopped start begun page left taken status
turn_stops start begun t old new before left taken page (statuses.BadLine number what) g same stops =
    let way = g.way in
    let tail : List ℕ = whole_line new.line ++ new.held in
    let decided : IsDecided (way.bytes ++ tail) (way.put ++ t.page) (bad_line number what) =
    line_decides (setup_of t) way.bytes (way.put ++ t.page) t.line way.state new.line new.held (bad_line number what) way.lines g.gives.plain
    (given_counts start begun t old new before left taken g)
    (λ more. faulty_line (setup_of t) t.line way.state new.line what stops.1 more ∙ ap (λ n. stopped (bad_line n what)) (sym stops.0)) in
    let faulty = stopped_by_line start begun t old new before left taken (bad_line number what) g decided in
    record {
      bytes = way.bytes ++ tail;
      put = way.put;
      consumed = taken_by_line start begun t old new before left taken g;
      written = way.written;
      replays = subst (λ p. IsFaulty (way.bytes ++ tail) (way.put ++ p) left (bad_line number what)) (sym same) faulty;
      front = subst (λ p. IsFront (way.bytes ++ tail) (way.put ++ p)) (sym same) (front_at_line start begun t old new before left taken g tail);
      little = λ other. inl (decided_fault (way.bytes ++ tail) (way.put ++ t.page) (bad_line number what) decided (λ e. cc), faulty.late);
    }
turn_stops start begun t old new before left taken page (statuses.Differs number) g same stops =
    let way = g.way in
    let tail : List ℕ = whole_line new.line ++ new.held in
    let given = stops.1.0 in
    let decided : IsDecided (way.bytes ++ tail) (way.put ++ t.page) (differs number) =
    line_decides (setup_of t) way.bytes (way.put ++ t.page) t.line way.state new.line new.held (differs number) way.lines g.gives.plain
    (given_counts start begun t old new before left taken g)
    (λ more. differing_line (setup_of t) t.line way.state new.line given stops.1.1 (stops.1.2 way.state way.means) more ∙ ap (λ n. stopped (differs n)) (sym stops.0)) in
    let faulty = stopped_by_line start begun t old new before left taken (differs number) g decided in
    record {
      bytes = way.bytes ++ tail;
      put = way.put;
      consumed = taken_by_line start begun t old new before left taken g;
      written = way.written;
      replays = subst (λ p. IsFaulty (way.bytes ++ tail) (way.put ++ p) left (differs number)) (sym same) faulty;
      front = subst (λ p. IsFront (way.bytes ++ tail) (way.put ++ p)) (sym same) (front_at_line start begun t old new before left taken g tail);
      little = λ other. inl (decided_fault (way.bytes ++ tail) (way.put ++ t.page) (differs number) decided (λ e. cc), faulty.late);
    }
turn_stops start begun t old new before left taken page statuses.OutOfMemory g same stops =
    let way = g.way in
    let tail : List ℕ = whole_line new.line ++ new.held in
    let front : IsFront (way.bytes ++ tail) (way.put ++ page) =
    subst (λ p. IsFront (way.bytes ++ tail) (way.put ++ p)) (sym same) (front_at_line start begun t old new before left taken g tail) in
    record {
      bytes = way.bytes ++ tail;
      put = way.put;
      consumed = taken_by_line start begun t old new before left taken g;
      written = way.written;
      replays = front;
      front = front;
      little = λ other. absurd (other refl);
    }
turn_stops start begun t old new before left taken page statuses.Done g same stops = absurd stops
turn_stops start begun t old new before left taken page statuses.Usage g same stops = absurd stops
turn_stops start begun t old new before left taken page (statuses.BadSetup what) g same stops = absurd stops
turn_stops start begun t old new before left taken page statuses.TooLong g same stops = absurd stops
turn_stops start begun t old new before left taken page statuses.ReadFault g same stops = absurd stops
turn_stops start begun t old new before left taken page statuses.WriteFault g same stops = absurd stops

-- ---- no line was given

-- the feed stops
pub record Stopped (start begun : Option (List ℕ)) (t : TraceView) (old new : Feed) (before left taken : Option (List ℕ)) : Type 0 where
  pub way : IsUnderWay start begun t old before taken
  pub consumed : Consumes (bytes_ahead old before) (bytes_ahead new left) []
  pub passed : new.passed ≡ old.passed + 0

taken_in_all : (start begun : Option (List ℕ)) (t : TraceView) (old new : Feed) (before left taken : Option (List ℕ)) (s : Stopped start begun t old new before left taken)
    → Consumes start left (s.way.bytes ++ new.held)
taken_in_all start begun t old new before left taken s =
    consumes_held start left new s.way.bytes
    (subst (Consumes start (bytes_ahead new left)) (append-nil s.way.bytes)
    (consumes_both start (bytes_ahead old before) (bytes_ahead new left) s.way.bytes [] s.way.consumed s.consumed))

all_passed : (start begun : Option (List ℕ)) (t : TraceView) (old new : Feed) (before left taken : Option (List ℕ)) (s : Stopped start begun t old new before left taken)
    → input_bytes - length s.way.bytes ≡ counted new
all_passed start begun t old new before left taken s = omega (arith, s.passed, s.way.passed)

front_in_all : (start begun : Option (List ℕ)) (t : TraceView) (old new : Feed) (before left taken : Option (List ℕ)) (s : Stopped start begun t old new before left taken)
    → IsFront (s.way.bytes ++ new.held) (s.way.put ++ t.page)
front_in_all start begun t old new before left taken s =
    front_so_far (setup_of t) s.way.bytes (s.way.put ++ t.page) t.line s.way.state new.held (s.way.put ++ t.page) [] s.way.lines (sym (append-nil (s.way.put ++ t.page)))

little_in_all : (start begun : Option (List ℕ)) (t : TraceView) (old new : Feed) (before left taken : Option (List ℕ)) (s : Stopped start begun t old new before left taken)
    → length new.held < piece_bytes → IsReadLittle (s.way.bytes ++ new.held)
little_in_all start begun t old new before left taken s few =
    inr (length s.way.bytes, read_to (setup_of t) s.way.bytes (s.way.put ++ t.page) t.line s.way.state new.held s.way.lines few)

-- at a line that is too long
pub stops_long : (start begun : Option (List ℕ)) (t : TraceView) (old new : Feed) (before left taken : Option (List ℕ)) (s : Stopped start begun t old new before left taken)
    → IsLong line_limit (counted new) new.held → new.passed + length new.held < new.passed + line_limit + 1 + piece_bytes
    → IsStopped start begun t.page left taken (statuses.BadLine t.line line_faults.Long)
stops_long start begun t old new before left taken s long ahead =
    let way = s.way in
    let here : IsLong line_limit (input_bytes - length way.bytes) new.held =
    subst (λ c. IsLong line_limit c new.held) (sym (all_passed start begun t old new before left taken s)) long in
    let decided = long_decides (setup_of t) way.bytes (way.put ++ t.page) t.line way.state new.held way.lines here in
    let late = long_decides_late (setup_of t) way.bytes (way.put ++ t.page) t.line way.state new.held way.lines here (omega (arith, ahead)) in
    record {
      bytes = way.bytes ++ new.held;
      put = way.put;
      consumed = taken_in_all start begun t old new before left taken s;
      written = way.written;
      replays = record { decided = inl decided; late = late };
      front = front_in_all start begun t old new before left taken s;
      little = λ other. inl (decided_fault (way.bytes ++ new.held) (way.put ++ t.page) (bad_line t.line line_faults.Long) decided (λ e. cc), late);
    }

-- past the bytes that count
pub stops_over : (start begun : Option (List ℕ)) (t : TraceView) (old new : Feed) (before left taken : Option (List ℕ)) (s : Stopped start begun t old new before left taken)
    → IsOver line_limit (counted new) new.held → new.passed + length new.held ≤ input_bytes + 1 → IsStopped start begun t.page left taken statuses.TooLong
stops_over start begun t old new before left taken s over most =
    let way = s.way in
    let same = all_passed start begun t old new before left taken s in
    let here : IsOver line_limit (input_bytes - length way.bytes) new.held = subst (λ c. IsOver line_limit c new.held) (sym same) over in
    record {
      bytes = way.bytes ++ new.held;
      put = way.put;
      consumed = taken_in_all start begun t old new before left taken s;
      written = way.written;
      replays = (
        omega (arith, most, s.passed, way.passed, here.reached, length-append way.bytes new.held),
        over_comes (setup_of t) way.bytes (way.put ++ t.page) t.line way.state new.held way.lines here,
      );
      front = front_in_all start begun t old new before left taken s;
      little = λ other. little_in_all start begun t old new before left taken s (omega (arith, most, s.passed, way.passed, here.short, way.lines.within));
    }

-- at the end of the input
pub stops_end : (start begun : Option (List ℕ)) (t : TraceView) (old new : Feed) (before left taken : Option (List ℕ)) (s : Stopped start begun t old new before left taken)
    → new.held ≡ [] → IsAtEnd left → IsStopped start begun t.page left taken statuses.Done
stops_end start begun t old new before left taken s none ended =
    let way = s.way in
    let nothing : length new.held ≡ 0 = ap (λ (bs : List ℕ). length bs) none in
    let still : IsOpen line_limit (input_bytes - length way.bytes) new.held = record {
      short = omega (arith, nothing);
      counts = omega (arith, nothing);
      plain = λ i d below is. absurd (omega (arith, below, nothing));
    } in
    record {
      bytes = way.bytes ++ new.held;
      put = way.put;
      consumed = taken_in_all start begun t old new before left taken s;
      written = way.written;
      replays = record {
        ended = ended;
        within = omega (arith, nothing, length-append way.bytes new.held, way.lines.within);
        comes =
            subst (λ held. ComesTo (way.bytes ++ new.held) end_met (way.put ++ t.page) (status_at_stop end_met (bad_line t.line line_faults.Unfinished) held done)) none
            (open_comes (setup_of t) way.bytes (way.put ++ t.page) t.line way.state new.held end_met way.lines still);
      };
      front = front_in_all start begun t old new before left taken s;
      little = λ other. little_in_all start begun t old new before left taken s (omega (arith, nothing));
    }

unfinished_status : (number : ℕ) (held : List ℕ) → 0 < length held → status_at_stop end_met (bad_line number line_faults.Unfinished) held done ≡ bad_line number line_faults.Unfinished
unfinished_status number [] some = absurd (omega (arith, some))
unfinished_status number (b ∷ held) some = refl

-- in an unfinished line
pub stops_unfinished : (start begun : Option (List ℕ)) (t : TraceView) (old new : Feed) (before left taken : Option (List ℕ)) (s : Stopped start begun t old new before left taken)
    → IsOpen line_limit (counted new) new.held → 0 < length new.held → IsAtEnd left → IsStopped start begun t.page left taken (statuses.BadLine t.line line_faults.Unfinished)
stops_unfinished start begun t old new before left taken s open_still some ended =
    let way = s.way in
    let here : IsOpen line_limit (input_bytes - length way.bytes) new.held =
    subst (λ c. IsOpen line_limit c new.held) (sym (all_passed start begun t old new before left taken s)) open_still in
    let all : length (way.bytes ++ new.held) ≡ length way.bytes + length new.held = length-append way.bytes new.held in
    record {
      bytes = way.bytes ++ new.held;
      put = way.put;
      consumed = taken_in_all start begun t old new before left taken s;
      written = way.written;
      replays = record {
        decided = inr (record {
          ended = ended;
          within = omega (arith, here.counts, all, way.lines.within);
          comes =
              subst (λ st. ComesTo (way.bytes ++ new.held) end_met (way.put ++ t.page) st) (unfinished_status t.line new.held some)
              (open_comes (setup_of t) way.bytes (way.put ++ t.page) t.line way.state new.held end_met way.lines here);
        });
        late =
            still_undecided (setup_of t) way.bytes (way.put ++ t.page) t.line way.state new.held (length new.held) (length (way.bytes ++ new.held) - piece_bytes) way.lines
            (subst HasNoNewline (sym (take_all (length new.held) new.held (omega arith))) here.plain) here.short (omega (arith, all));
      };
      front = front_in_all start begun t old new before left taken s;
      little = λ other. little_in_all start begun t old new before left taken s (omega (arith, here.short));
    }

-- at a take that failed
pub stops_fault : (start begun : Option (List ℕ)) (t : TraceView) (old new : Feed) (before left taken : Option (List ℕ)) (s : Stopped start begun t old new before left taken)
    → IsOpen line_limit (counted new) new.held → IsStopped start begun t.page left taken statuses.ReadFault
stops_fault start begun t old new before left taken s open_still =
    let way = s.way in
    let here : IsOpen line_limit (input_bytes - length way.bytes) new.held =
    subst (λ c. IsOpen line_limit c new.held) (sym (all_passed start begun t old new before left taken s)) open_still in
    record {
      bytes = way.bytes ++ new.held;
      put = way.put;
      consumed = taken_in_all start begun t old new before left taken s;
      written = way.written;
      replays = (
        omega (arith, here.counts, length-append way.bytes new.held, way.lines.within),
        open_comes (setup_of t) way.bytes (way.put ++ t.page) t.line way.state new.held fault_met way.lines here,
      );
      front = front_in_all start begun t old new before left taken s;
      little = λ other. little_in_all start begun t old new before left taken s (omega (arith, here.short));
    }

-- ---- by the answer of the feed

-- what the feed's answer says, over a source that had this left before and has this now
pub record Fetched (limit : ℕ) (old new : Feed) (before left : Option (List ℕ)) (was now : ℕ) (answer : Fed) : Type 0 where
  pub fed : IsFed limit left was now new answer
  pub bytes : Consumes (bytes_ahead old before) (bytes_ahead new left) (given_by new answer)
  pub keeps : StartsWith (in_hand new answer) old.held
  pub passed : new.passed ≡ old.passed + length (given_by new answer)
  pub ahead : new.passed + length new.held < decided_by limit new answer + piece_bytes
  pub most : new.passed + length new.held ≤ input_bytes + 1

pub given_line : (start begun : Option (List ℕ)) (t : TraceView) (old new : Feed) (before left taken : Option (List ℕ)) (was now : ℕ) → Fetched line_limit old new before left was now fed.Line
    → IsUnderWay start begun t old before taken → Given start begun t old new before left taken
given_line start begun t old new before left taken was now fetched way = record {
  way = way;
  gives = fetched.fed;
  consumed = fetched.bytes;
  passed = fetched.passed;
  few = omega (arith, fetched.ahead);
}

pub at_long : (start begun : Option (List ℕ)) (t : TraceView) (old new : Feed) (before left taken : Option (List ℕ)) (was now : ℕ) → Fetched line_limit old new before left was now fed.Long
    → IsUnderWay start begun t old before taken → IsStopped start begun t.page left taken (statuses.BadLine t.line line_faults.Long)
at_long start begun t old new before left taken was now fetched way =
    stops_long start begun t old new before left taken (record { way = way; consumed = fetched.bytes; passed = fetched.passed }) fetched.fed.1 fetched.ahead

pub at_unfinished : (start begun : Option (List ℕ)) (t : TraceView) (old new : Feed) (before left taken : Option (List ℕ)) (was now : ℕ) → Fetched line_limit old new before left was now fed.Unfinished
    → IsUnderWay start begun t old before taken → IsStopped start begun t.page left taken (statuses.BadLine t.line line_faults.Unfinished)
at_unfinished start begun t old new before left taken was now fetched way =
    stops_unfinished start begun t old new before left taken (record { way = way; consumed = fetched.bytes; passed = fetched.passed }) fetched.fed.1 fetched.fed.2 fetched.fed.3

pub at_end_met : (start begun : Option (List ℕ)) (t : TraceView) (old new : Feed) (before left taken : Option (List ℕ)) (was now : ℕ) → Fetched line_limit old new before left was now fed.End
    → IsUnderWay start begun t old before taken → IsStopped start begun t.page left taken statuses.Done
at_end_met start begun t old new before left taken was now fetched way =
    stops_end start begun t old new before left taken (record { way = way; consumed = fetched.bytes; passed = fetched.passed }) fetched.fed.1 fetched.fed.2

pub at_fault : (start begun : Option (List ℕ)) (t : TraceView) (old new : Feed) (before left taken : Option (List ℕ)) (was now : ℕ) → Fetched line_limit old new before left was now fed.Fault
    → IsUnderWay start begun t old before taken → IsStopped start begun t.page left taken statuses.ReadFault
at_fault start begun t old new before left taken was now fetched way =
    stops_fault start begun t old new before left taken (record { way = way; consumed = fetched.bytes; passed = fetched.passed }) fetched.fed.1

pub at_over : (start begun : Option (List ℕ)) (t : TraceView) (old new : Feed) (before left taken : Option (List ℕ)) (was now : ℕ) → Fetched line_limit old new before left was now fed.Over
    → IsUnderWay start begun t old before taken → IsStopped start begun t.page left taken statuses.TooLong
at_over start begun t old new before left taken was now fetched way =
    stops_over start begun t old new before left taken (record { way = way; consumed = fetched.bytes; passed = fetched.passed }) fetched.fed.1 fetched.most

-- a take fails only where the line was not at hand
pub none_at_hand : (old new : Feed) (before left : Option (List ℕ)) (was now : ℕ) → Fetched line_limit old new before left was now fed.Fault → IsAtHand line_limit old → ⊥
none_at_hand old new before left was now fetched hand =
    let still : IsOpen line_limit (counted new) new.held = fetched.fed.1 in
    let long : min (length old.held) (length new.held) ≡ length old.held =
    sym (length-take (length old.held) new.held) ∙ ap (λ (bs : List ℕ). length bs) fetched.keeps in
    hand (record {
      short = omega (arith, still.short, long);
      counts = omega (arith, still.counts, long, fetched.passed);
      plain = subst HasNoNewline fetched.keeps (plain_front (length old.held) new.held still.plain);
    })

-- why a line is not answered is never a failed put, nor a failed take
pub never_put : (t : TraceView) (line : List ℕ) (status : ReplayStatus) → StopsLine t line status → status ≢ statuses.WriteFault
never_put t line statuses.WriteFault stops same = stops
never_put t line (statuses.BadLine number what) stops same = absurd (cc)
never_put t line (statuses.Differs number) stops same = absurd (cc)
never_put t line statuses.OutOfMemory stops same = absurd (cc)
never_put t line statuses.Done stops same = stops
never_put t line statuses.Usage stops same = stops
never_put t line (statuses.BadSetup what) stops same = stops
never_put t line statuses.TooLong stops same = stops
never_put t line statuses.ReadFault stops same = stops

pub never_taken : (t : TraceView) (line : List ℕ) (status : ReplayStatus) → StopsLine t line status → status ≢ statuses.ReadFault
never_taken t line statuses.ReadFault stops same = stops
never_taken t line (statuses.BadLine number what) stops same = absurd (cc)
never_taken t line (statuses.Differs number) stops same = absurd (cc)
never_taken t line statuses.OutOfMemory stops same = absurd (cc)
never_taken t line statuses.Done stops same = stops
never_taken t line statuses.Usage stops same = stops
never_taken t line (statuses.BadSetup what) stops same = stops
never_taken t line statuses.TooLong stops same = stops
never_taken t line statuses.WriteFault stops same = stops

-- the machine may end after a line
pub line_ends : (r : Result (Unit {0}) ReplayStatus) (t next : TraceView) (line : List ℕ) → CanAnswer t → OnOk r (Answers t next line)
    → IfErr r (λ status. StopsLine t line status × Stays t next) → CanEnd next
line_ends (Ok x) t next line can answers none =
    record { machine = (_, (answers.2.goes can.machine.0 can.machine.1).2); steps = omega (arith, can.steps, answers.2.steps) }
line_ends (Err status) t next line can none stops = stops.1.ends
