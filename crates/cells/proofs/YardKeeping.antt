-- A run of the yard with one line more, and what a held yard keeps over a step.
use Rattle.std.proofs.Common.{◌≡◌, ◌<◌, ◌≤◌, List, [], ◌∷◌, ◌++◌, length, refl, sym, ap, ◌∙◌, subst, arith}
use Rattle.std.specs.Option.{option_map_or}
use Rattle.rights.specs.Values.{DeskId}
use Rattle.sched_base.specs.Limits.{moment_limit, most_threads}
use Rattle.flat_policy.specs.declared.journal.Line.{Line}
use Rattle.flat_policy.specs.Policy.Setup.{SetupParts}
use Rattle.flat_policy.specs.Runs.Histories.{RunYard, YRun, YRunFrom, YStep, YardEvent, empty_run_yard, yard_after}
use Rattle.flat_policy.specs.Runs.Worker.{Program}
use Rattle.cells.specs.Yards.{EachBlocked, IsSleeper, KeepsYard, YardParts, yard_stepped}

-- where a line leads by its step is where it leads
pub yard_step_after : (setup : SetupParts) (y : RunYard) (l : Line) (next : RunYard) → YStep setup y l next → yard_after setup y l ≡ next
yard_step_after setup y l next step = ap (λ o. option_map_or (λ (e : YardEvent). e.yard) o y) step.happens ∙ sym step.leads

pub yard_run_from_pushed : (setup : SetupParts) (y : RunYard) (ls : List Line) (mid : RunYard) (l : Line) (next : RunYard) → YRunFrom setup y ls mid → YStep setup mid l next → YRunFrom setup y (ls ++ l ∷ []) next
yard_run_from_pushed setup y [] mid l next run step =
    let here : YStep setup y l next = subst (λ u. YStep setup u l next) run step in
    let to : yard_after setup y l ≡ next = yard_step_after setup y l next here in
    (subst (YStep setup y l) (sym to) here, sym to)
yard_run_from_pushed setup y (k ∷ ls) mid l next run step = (run.0, yard_run_from_pushed setup (yard_after setup y k) ls mid l next run.1 step)

-- a run and one step more are a run
pub yard_run_pushed : (setup : SetupParts) (ls : List Line) (mid : RunYard) (l : Line) (next : RunYard) → YRun setup ls mid → YStep setup mid l next → YRun setup (ls ++ l ∷ []) next
yard_run_pushed setup ls mid l next run step = yard_run_from_pushed setup empty_run_yard ls mid l next run step

-- two held yards with the same parts are the same
pub same_yard_parts : (x y : YardParts) → x.yard ≡ y.yard → x.room ≡ y.room → x.made_room ≡ y.made_room → x.ended_room ≡ y.ended_room → x.journal ≡ y.journal → x.slots ≡ y.slots → x.lines ≡ y.lines → x.others ≡ y.others → x ≡ y
same_yard_parts x y p q r s t u v w = λ i. record { yard = p i; room = q i; made_room = r i; ended_room = s i; journal = t i; slots = u i; lines = v i; others = w i }

module _ (setup : SetupParts) (programs : List Program) (desks : List DeskId) (h : YardParts) (k : KeepsYard setup programs desks h) where
  -- there is room for every thread that was made
  pub made_within : length h.yard.made ≤ h.room
  made_within = omega (arith, k.minted, k.spare, k.parked, k.within)

  -- what is kept after a step that its line makes
  pub yard_stepped_keeps : (l : Line) (y : RunYard) → YStep setup h.yard l y → EachBlocked (IsSleeper setup programs) y.blocked → y.last < moment_limit → length y.made ≤ most_threads → length y.made ≤ h.room → length y.blocked ≤ h.room → length y.ended ≤ length y.made
      → KeepsYard setup programs desks (yard_stepped l y h)
  yard_stepped_keeps l y step course soon few fits within ended = record {
    history = yard_run_pushed setup h.journal.lines h.yard l y k.history step;
    course = course;
    last = soon;
    slots_of = k.slots_of;
    lines_of = k.lines_of;
    parked = refl;
    minted = refl;
    few = few;
    within = within;
    spare = omega arith;
    ended_few = ended;
    made_fits = k.made_fits;
    ended_fits = k.ended_fits;
    room_is = omega (arith, k.room_is);
    others_are = refl;
  }
