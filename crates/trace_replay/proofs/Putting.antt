-- Output that is put while a replay goes on, and when it stops.
use Rattle.std.proofs.Common.{◌≡◌, ◌≢◌, ◌∙◌, ◌⊎◌, ℕ, ◌+◌, Bool, List, [], ◌++◌, Option, None, Some, Result, Ok, Err, drop, length, length-append, take, arith, ap, append_assoc, append-nil, inl, inr, refl, sym, subst, true}
use Rattle.std.proofs.lemmas.List.{take-append-drop, take-take, take_at}
use Rattle.std.specs.Io.KnownBytes.{Appends}
use Rattle.std.specs.Prelude.{IfErr, OnErr, OnOk}
use Rattle.ports.specs.Devices.{AppendsPart, Rose, one_more}
use Rattle.ports.specs.Feeds.{Feed}
use Rattle.trace_replay.specs.SoFar.{SoFar}
use Rattle.trace_replay.specs.Statuses.{HasWriteCause, PutsOnce, when_cut}
use Rattle.trace_replay.specs.Traces.{CanAnswer, CanEnd, TraceView, setup_of}
use Rattle.trace_replay.specs.UnderWay.{HasEnded, IsStopped, IsUnderWay}
use Rattle.trace_replay.specs.declared.status.ReplayStatus.{ReplayStatus}
use Rattle.trace_replay.specs.declared.status.ReplayStatus.TheVariants as statuses
use Rattle.trace_replay.proofs.Ending.{front_so_far, read_to}
use Rattle.trace_replay.proofs.Turns.{consumes_held}

-- bytes that are appended one after the other
pub appends_both : (a b c : Option (List ℕ)) (x y : List ℕ) → Appends a b x → Appends b c y → Appends a c (x ++ y)
appends_both None b c x y first then = tt
appends_both (Some xs) None c x y first then = absurd first
appends_both (Some xs) (Some ys) None x y first then = absurd then
appends_both (Some xs) (Some ys) (Some zs) x y first then = then ∙ ap (λ bs. bs ++ y) first ∙ append_assoc xs x y

-- what follows from a fact of an Ok
pub on_ok : {T E P Q : Type 0} (r : Result T E) → (P → Q) → OnOk r P → OnOk r Q
on_ok (Ok x) f p = f p
on_ok (Err e) f p = p

-- and of an Err
pub on_err : {T E P Q : Type 0} (r : Result T E) → (P → Q) → OnErr r P → OnErr r Q
on_err (Ok x) f p = p
on_err (Err e) f p = f p

-- of an Err with its error
pub if_err : {T E : Type 0} {P Q : E → Type 0} (r : Result T E) → ((e : E) → P e → Q e) → IfErr r P → IfErr r Q
if_err (Ok x) f p = p
if_err (Err e) f p = f e p

-- a replay under way may take a step more
pub may_answer : (start begun : Option (List ℕ)) (t : TraceView) (feed : Feed) (left taken : Option (List ℕ)) → IsUnderWay start begun t feed left taken → CanAnswer t
may_answer start begun t feed left taken way = record {
  machine = (way.state, way.means);
  steps = omega (arith, way.steps, way.number, way.lines.within);
  line = omega (arith, way.number, way.lines.within);
}

-- it may end, whatever its page
pub may_end : (t next : TraceView) → CanAnswer t → next ≡ record t { page = next.page } → CanEnd next
may_end t next can same = subst CanEnd (sym same) (record { machine = can.machine; steps = omega (arith, can.steps) })

-- the page was put
pub page_put : (start begun : Option (List ℕ)) (t next : TraceView) (feed : Feed) (left taken now : Option (List ℕ)) → IsUnderWay start begun t feed left taken
    → Appends taken now t.page → next ≡ record t { page = [] } → IsUnderWay start begun next feed left now
page_put start begun t next feed left taken now way put is =
    let empty : TraceView = record t { page = [] } in
    let text : way.put ++ t.page ≡ (way.put ++ t.page) ++ [] = sym (append-nil (way.put ++ t.page)) in
    subst (λ v. IsUnderWay start begun v feed left now) (sym is)
    (record {
      bytes = way.bytes;
      put = way.put ++ t.page;
      state = way.state;
      means = way.means;
      lines = subst (λ x. SoFar (setup_of t) way.bytes x t.line way.state) text way.lines;
      steps = way.steps;
      number = way.number;
      passed = way.passed;
      few = way.few;
      open_still = way.open_still;
      consumed = way.consumed;
      written = appends_both begun taken now way.put t.page way.written put;
    })

-- a front of a front
front_shorter : (out front rest whole : List ℕ) → take (length whole) out ≡ whole → whole ≡ front ++ rest → take (length front) out ≡ front
front_shorter out front rest whole starts is =
    let long : length whole ≡ length front + length rest = ap (λ (bs : List ℕ). length bs) is ∙ length-append front rest in
    sym (take-take (length front) (length whole) out (omega (arith, long)))
    ∙ ap (λ (bs : List ℕ). take (length front) bs) (starts ∙ is)
    ∙ take_at front rest (length front) refl

split_page : (put page : List ℕ) (n : ℕ) → put ++ page ≡ (put ++ take n page) ++ drop n page
split_page put page n = ap (λ bs. put ++ bs) (sym (take-append-drop n page)) ∙ sym (append_assoc put (take n page) (drop n page))

-- a put of the page failed
pub page_cut : (start begun : Option (List ℕ)) (t : TraceView) (feed : Feed) (left taken now : Option (List ℕ)) → IsUnderWay start begun t feed left taken
    → AppendsPart taken now t.page → HasEnded start begun left now statuses.WriteFault
page_cut start begun t feed left taken now way part =
    let n : ℕ = part.0 in
    record {
      bytes = way.bytes ++ feed.held;
      text = way.put ++ take n t.page;
      consumed = consumes_held start left feed way.bytes way.consumed;
      written = appends_both begun taken now way.put (take n t.page) way.written part.2;
      replays = (
        front_so_far (setup_of t) way.bytes (way.put ++ t.page) t.line way.state feed.held (way.put ++ take n t.page) (drop n t.page) way.lines (split_page way.put t.page n),
        inr (length way.bytes, read_to (setup_of t) way.bytes (way.put ++ t.page) t.line way.state feed.held way.lines way.few),
      );
    }

-- the last page was put
pub stop_put : (start begun : Option (List ℕ)) (page : List ℕ) (left taken now : Option (List ℕ)) (status : ReplayStatus) → IsStopped start begun page left taken status
    → Appends taken now page → HasEnded start begun left now status
stop_put start begun page left taken now status stop put = record {
  bytes = stop.bytes;
  text = stop.put ++ page;
  consumed = stop.consumed;
  written = appends_both begun taken now stop.put page stop.written put;
  replays = stop.replays;
}

-- a put of the last page failed
stop_cut : (start begun : Option (List ℕ)) (page : List ℕ) (left taken now : Option (List ℕ)) (status : ReplayStatus) → IsStopped start begun page left taken status
    → AppendsPart taken now page → status ≢ statuses.OutOfMemory → HasEnded start begun left now statuses.WriteFault
stop_cut start begun page left taken now status stop part other =
    let n : ℕ = part.0 in
    record {
      bytes = stop.bytes;
      text = stop.put ++ take n page;
      consumed = stop.consumed;
      written = appends_both begun taken now stop.put (take n page) stop.written part.2;
      replays = (front_shorter _ (stop.put ++ take n page) (drop n page) (stop.put ++ page) stop.front (split_page stop.put page n), stop.little other);
    }

-- so too where memory ran out
memory_cut : (start begun : Option (List ℕ)) (page : List ℕ) (left taken now : Option (List ℕ)) (status : ReplayStatus) → IsStopped start begun page left taken status
    → AppendsPart taken now page → HasEnded start begun left now statuses.OutOfMemory
memory_cut start begun page left taken now status stop part =
    let n : ℕ = part.0 in
    record {
      bytes = stop.bytes;
      text = stop.put ++ take n page;
      consumed = stop.consumed;
      written = appends_both begun taken now stop.put (take n page) stop.written part.2;
      replays = front_shorter _ (stop.put ++ take n page) (drop n page) (stop.put ++ page) stop.front (split_page stop.put page n);
    }

-- want of memory stays, and every other status gives way
cut_cases : (s : ReplayStatus) → ((s ≡ statuses.OutOfMemory) × (when_cut s ≡ statuses.OutOfMemory)) ⊎ ((s ≢ statuses.OutOfMemory) × (when_cut s ≡ statuses.WriteFault))
cut_cases statuses.OutOfMemory = inl (refl, refl)
cut_cases statuses.WriteFault = inr (λ e. cc, refl)
cut_cases statuses.Done = inr (λ e. cc, refl)
cut_cases statuses.Usage = inr (λ e. cc, refl)
cut_cases (statuses.BadSetup what) = inr (λ e. cc, refl)
cut_cases (statuses.BadLine line what) = inr (λ e. cc, refl)
cut_cases (statuses.Differs line) = inr (λ e. cc, refl)
cut_cases statuses.TooLong = inr (λ e. cc, refl)
cut_cases statuses.ReadFault = inr (λ e. cc, refl)

pub cut_ends : (start begun : Option (List ℕ)) (page : List ℕ) (left taken now : Option (List ℕ)) (status : ReplayStatus) → IsStopped start begun page left taken status
    → AppendsPart taken now page → HasEnded start begun left now (when_cut status)
cut_ends start begun page left taken now status stop part =
    elim (cut_cases status) [
      | inl is ↦ subst (HasEnded start begun left now) (sym is.1) (memory_cut start begun page left taken now status stop part)
      | inr is ↦ subst (HasEnded start begun left now) (sym is.1) (stop_cut start begun page left taken now status stop part is.0)
    ]

pub cut_same : (status : ReplayStatus) → (when_cut status ≢ statuses.WriteFault) → when_cut status ≡ status
cut_same status other =
    elim (cut_cases status) [
      | inl is ↦ is.1 ∙ sym is.0
      | inr is ↦ absurd (other is.1)
    ]

pub cut_cause : (before now : ℕ) (status : ReplayStatus) → Rose before now → HasWriteCause before now (when_cut status)
cut_cause before now status rose =
    elim (cut_cases status) [
      | inl is ↦ subst (HasWriteCause before now) (sym is.1) tt
      | inr is ↦ subst (HasWriteCause before now) (sym is.1) rose
    ]

pub cut_once : (before now : ℕ) (failing : Bool) (status : ReplayStatus) → (now ≡ one_more before) × (failing ≡ true) → PutsOnce before now failing (when_cut status)
cut_once before now failing status once =
    elim (cut_cases status) [
      | inl is ↦ subst (PutsOnce before now failing) (sym is.1) (inr once)
      | inr is ↦ subst (PutsOnce before now failing) (sym is.1) once
    ]

-- ---- what is said of the devices

-- a status that is answered where every put went
pub put_went : (before now : ℕ) (failing : Bool) (status : ReplayStatus) → status ≢ statuses.WriteFault → now ≡ before → PutsOnce before now failing status
put_went before now failing statuses.WriteFault other same = absurd (other refl)
put_went before now failing statuses.OutOfMemory other same = inl same
put_went before now failing statuses.Done other same = same
put_went before now failing statuses.Usage other same = same
put_went before now failing (statuses.BadSetup what) other same = same
put_went before now failing (statuses.BadLine line what) other same = same
put_went before now failing (statuses.Differs line) other same = same
put_went before now failing statuses.TooLong other same = same
put_went before now failing statuses.ReadFault other same = same

pub no_write_cause : (before now : ℕ) (status : ReplayStatus) → status ≢ statuses.WriteFault → HasWriteCause before now status
no_write_cause before now statuses.WriteFault other = absurd (other refl)
no_write_cause before now statuses.OutOfMemory other = tt
no_write_cause before now statuses.Done other = tt
no_write_cause before now statuses.Usage other = tt
no_write_cause before now (statuses.BadSetup what) other = tt
no_write_cause before now (statuses.BadLine line what) other = tt
no_write_cause before now (statuses.Differs line) other = tt
no_write_cause before now statuses.TooLong other = tt
no_write_cause before now statuses.ReadFault other = tt

-- an empty page can't be cut
pub nothing_to_cut : (a b : Option (List ℕ)) (page : List ℕ) → page ≡ [] → AppendsPart a b page → ⊥
nothing_to_cut a b page empty part = absurd (omega (arith, part.1, ap (λ (bs : List ℕ). length bs) empty))
