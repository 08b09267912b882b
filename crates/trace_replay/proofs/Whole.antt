-- A replay of a source that tells all its bytes.
use Rattle.std.proofs.Common.{◌≡◌, ◌∙◌, ℕ, ◌+◌, ◌≤◌, ◌<◌, List, ◌++◌, Option, None, Some, length, length-append, arith, ap, append-nil, sym, subst, inl, inr}
use Rattle.std.proofs.lemmas.Bool.Decides.{nat_tests}
use Rattle.std.proofs.lemmas.List.{take-append-le}
use Rattle.std.specs.Io.KnownBytes.{Appends}
use Rattle.std.specs.Prelude.{IfSome}
use Rattle.sched_base.specs.Limits.{input_bytes}
use Rattle.flat_policy.specs.Texts.Streams.{Out, Status, StatusOf, bad_line, bad_setup, differs, done, end_met, over_met, too_long}
use Rattle.trace_replay.specs.Replaying.{ComesTo, IsFaulty, IsOfWhole, IsWhole, counting, status_in, stop_of}
use Rattle.trace_replay.specs.UnderWay.{HasEnded}
use Rattle.trace_replay.specs.Words.{IsRefusal}
use Rattle.trace_replay.specs.declared.words.Asked.{Asked}
use Rattle.trace_replay.specs.declared.words.Asked.TheVariants as askeds
use Rattle.trace_replay.proofs.Starting.{ends_at_once}
use Rattle.trace_replay.specs.declared.status.ReplayStatus.{ReplayStatus}
use Rattle.trace_replay.specs.declared.status.ReplayStatus.TheVariants as statuses

-- within the limit the end is met, and else the limit
ends_within : (bytes : List ℕ) → length bytes ≤ input_bytes → stop_of bytes ≡ end_met
ends_within bytes within = grind (arith, nat_tests)

ends_over : (bytes : List ℕ) → input_bytes < length bytes → stop_of bytes ≡ over_met
ends_over bytes over = grind (arith, nat_tests)

-- what is said of a whole input
abbrev Said : List ℕ → Option (List ℕ) → Option (List ℕ) → ReplayStatus → Type 0
Said all old new s = (s ≡ status_in (StatusOf (counting all) (stop_of all))) × Appends old new (Out (counting all) (stop_of all))

said : (all text : List ℕ) (old new : Option (List ℕ)) (status : Status) → ComesTo all (stop_of all) text status → Appends old new text → Said all old new (status_in status)
said all text old new status comes written = (ap status_in (sym comes.answers), subst (Appends old new) (sym comes.writes) written)

-- where the input ends
said_at_end : (all taken text rest : List ℕ) (old new : Option (List ℕ)) (status : Status) → all ≡ taken ++ rest → IsWhole taken text (Some rest) status → Appends old new text
    → Said all old new (status_in status)
said_at_end all taken text rest old new status split whole written =
    let same : taken ≡ all = sym (split ∙ ap (λ (bs : List ℕ). taken ++ bs) whole.ended ∙ append-nil taken) in
    let comes : ComesTo all (stop_of all) text status =
    subst (λ stop. ComesTo all stop text status) (sym (ends_within all (subst (λ (bs : List ℕ). length bs ≤ input_bytes) same whole.within)))
    (subst (λ (bs : List ℕ). ComesTo bs end_met text status) same whole.comes) in
    said all text old new status comes written

-- where a line is faulty
said_of_fault : (all taken text rest : List ℕ) (old new : Option (List ℕ)) (status : Status) → all ≡ taken ++ rest → IsFaulty taken text (Some rest) status → Appends old new text
    → Said all old new (status_in status)
said_of_fault all taken text rest old new status split faulty written =
    elim faulty.decided [
      | inl decided ↦ said all text old new status (subst (λ (bs : List ℕ). ComesTo bs (stop_of all) text status) (sym split) (decided rest (stop_of all))) written
      | inr whole ↦ said_at_end all taken text rest old new status split whole written
    ]

-- where there are too many bytes
said_over : (all taken text rest : List ℕ) (old new : Option (List ℕ)) → all ≡ taken ++ rest → length taken ≡ input_bytes + 1 → ComesTo taken over_met text too_long → Appends old new text
    → Said all old new statuses.TooLong
said_over all taken text rest old new split long comes written =
    let count : counting all ≡ counting taken = ap counting split ∙ take-append-le input_bytes taken rest (omega (arith, long)) in
    let stop : stop_of all ≡ over_met =
    ends_over all (omega (arith, ap (λ (bs : List ℕ). length bs) split, length-append taken rest, long)) in
    let here : ComesTo all (stop_of all) text too_long = record {
      writes = ap (λ st. Out (counting all) st) stop ∙ ap (λ bs. Out bs over_met) count ∙ comes.writes;
      answers = ap (λ st. StatusOf (counting all) st) stop ∙ ap (λ bs. StatusOf bs over_met) count ∙ comes.answers;
    } in
    said all text old new too_long here written

-- the status and the output are those of the whole input
of_split : (all rest : List ℕ) (old new : Option (List ℕ)) (s : ReplayStatus) (e : HasEnded (Some all) old (Some rest) new s) → IsOfWhole all old new s
of_split all rest old new statuses.Done e uncut = said_at_end all e.bytes e.text rest old new done e.consumed e.replays e.written
of_split all rest old new statuses.Usage e uncut = absurd e.replays
of_split all rest old new (statuses.BadSetup what) e uncut = said_of_fault all e.bytes e.text rest old new (bad_setup what) e.consumed e.replays e.written
of_split all rest old new (statuses.BadLine line what) e uncut = said_of_fault all e.bytes e.text rest old new (bad_line line what) e.consumed e.replays e.written
of_split all rest old new (statuses.Differs line) e uncut = said_of_fault all e.bytes e.text rest old new (differs line) e.consumed e.replays e.written
of_split all rest old new statuses.TooLong e uncut = said_over all e.bytes e.text rest old new e.consumed e.replays.0 e.replays.1 e.written
of_split all rest old new statuses.ReadFault e uncut = absurd uncut
of_split all rest old new statuses.WriteFault e uncut = absurd uncut
of_split all rest old new statuses.OutOfMemory e uncut = absurd uncut

pub of_whole : (all : List ℕ) (left old new : Option (List ℕ)) (s : ReplayStatus) → HasEnded (Some all) old left new s → IsOfWhole all old new s
of_whole all None old new s e = absurd e.consumed
of_whole all (Some rest) old new s e = of_split all rest old new s e

-- so where the source tells its bytes
pub if_told : (start left old new : Option (List ℕ)) (s : ReplayStatus) → HasEnded start old left new s → IfSome start (λ all. IsOfWhole all old new s)
if_told None left old new s e = tt
if_told (Some all) left old new s e = of_whole all left old new s e

none_is_some : None ≡ Some askeds.Replay → ⊥
none_is_some same = cc

-- where memory ran out while the words were read, nothing is done
pub refused_replay : (asked : Option Asked) (s : ReplayStatus) (left taken : Option (List ℕ)) → IsRefusal asked s → asked ≡ Some askeds.Replay → HasEnded left taken left taken s
refused_replay asked statuses.OutOfMemory left taken refused is = ends_at_once left taken
refused_replay asked statuses.Usage left taken refused is = absurd (none_is_some (sym refused ∙ is))
refused_replay asked statuses.Done left taken refused is = absurd refused
refused_replay asked (statuses.BadSetup what) left taken refused is = absurd refused
refused_replay asked (statuses.BadLine line what) left taken refused is = absurd refused
refused_replay asked (statuses.Differs line) left taken refused is = absurd refused
refused_replay asked statuses.TooLong left taken refused is = absurd refused
refused_replay asked statuses.ReadFault left taken refused is = absurd refused
refused_replay asked statuses.WriteFault left taken refused is = absurd refused
