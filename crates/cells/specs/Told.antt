-- What each step tells of the held value that it found: the entry, and what it gives.
use Rattle.std.specs.Prelude.{Bool, IsNone, Option, Some, [], false, is_none, ℕ, ◌≡◌, ◌↔◌}
use Rattle.flat_policy.specs.Policy.Clusters.{after_offer, after_touch, after_turn, entered_in}
use Rattle.flat_policy.specs.Runs.Histories.{RunYard, ending, first_sleeper, sleeping}
use Rattle.sched_base.specs.Bucket.{index}
use Rattle.sched_base.specs.declared.Bucket.{Bucket}
use Rattle.sched_base.specs.declared.Entry.{Entry}
use Rattle.sched_base.specs.declared.Facts.{Facts}
use Rattle.sched_base.specs.declared.Ticket.{Ticket}
use Rattle.sched_base.specs.declared.Act.TheVariants as acts
use Rattle.cells.specs.Held.{HeldParts, TellsPriority, after_selecting, answer_of_load, enter_entry, gives_none, look_entry, marked, offer_entry, select_entry, stepped, turn_entry, unmarked}
use Rattle.cells.specs.Yards.{YardParts, due_first, some_due, waking_at, wake_entry, woken_at, yard_entry, yard_moment, yard_stepped}

-- a thread entered at the tail
pub record Entered (c actor : ℕ) (t : Facts) (now : ℕ) (e : Entry) (ticket : Ticket) (h : HeldParts) : Type 0 where
  pub entry : e ≡ enter_entry c actor h.cluster t false now
  pub cluster : ticket.cluster ≡ c
  pub arrival : ticket.arrival ≡ h.cluster.flat.next_arrival
  pub pri : TellsPriority e.answer ticket.pri

-- the held cluster after that
abbrev pub after_entered : Facts → ℕ → Entry → Ticket → HeldParts → HeldParts
after_entered t now e ticket h = stepped (unmarked e) (entered_in h.cluster t false now ticket.slot) h

-- a thread was selected; none exactly where the answer tells that there was none to be selected, or that the cluster was off
pub record Selected (actor now : ℕ) (e : Entry) (value : Option Facts) (h : HeldParts) : Type 0 where
  pub entry : e ≡ select_entry actor h.cluster now
  pub given : value ≡ e.thread
  pub told : is_none value ≡ gives_none e.answer

-- the held cluster after that
abbrev pub after_selected : ℕ → Entry → HeldParts → HeldParts
after_selected now e h = stepped (unmarked e) (after_selecting h.cluster now) h

-- a thread was offered to another cluster; none exactly where the answer tells that there was none to be taken
pub record Offered (c actor to now : ℕ) (e : Entry) (value : Option Facts) (h : HeldParts) : Type 0 where
  pub entry : e ≡ offer_entry c actor h.cluster to now
  pub given : value ≡ e.thread
  pub told : is_none value ≡ gives_none e.answer

-- the held cluster after that
abbrev pub after_offered : ℕ → ℕ → Entry → HeldParts → HeldParts
after_offered to now e h = stepped (unmarked e) (after_offer h.cluster to now) h

-- the load for a bucket was asked for; none exactly where the cluster was off
pub record Looked (c actor : ℕ) (b : Bucket) (now : ℕ) (e : Entry) (value : Option ℕ) (h : HeldParts) : Type 0 where
  pub entry : e ≡ look_entry c actor h.cluster b now
  pub given : e.answer ≡ answer_of_load value
  pub off : IsNone value ↔ (h.cluster.flat.on ≡ false)

-- the held cluster after that
abbrev pub after_looked : Bucket → ℕ → Entry → HeldParts → HeldParts
after_looked b now e h = stepped (marked (index b) e) (after_touch h.cluster now) h

-- the cluster was turned on or off
abbrev pub Turned : ℕ → ℕ → Bool → ℕ → Entry → HeldParts → Type 0
Turned c actor on now e h = e ≡ turn_entry c actor h.cluster on now

-- the held cluster after that
abbrev pub after_turned : Bool → ℕ → Entry → HeldParts → HeldParts
after_turned on now e h = stepped (unmarked e) (after_turn h.cluster on now) h

-- a thread went to sleep
abbrev pub Slept : ℕ → Facts → ℕ → ℕ → Entry → YardParts → Type 0
Slept actor t span now e h = e ≡ yard_entry (yard_moment h.yard now) actor acts.Sleep (sleeping h.yard (yard_moment h.yard now) t span)

-- the held yard after that
abbrev pub after_slept : Facts → ℕ → ℕ → Entry → YardParts → YardParts
after_slept t span now e h = yard_stepped (record { entry = e; mark = Some span }) (sleeping h.yard (yard_moment h.yard now) t span).yard h

-- a thread ended
abbrev pub Ended : ℕ → Facts → ℕ → Entry → YardParts → Type 0
Ended actor t now e h = e ≡ yard_entry (yard_moment h.yard now) actor acts.End (ending h.yard (yard_moment h.yard now) t)

-- the held yard after that
abbrev pub after_ended : Facts → ℕ → Entry → YardParts → YardParts
after_ended t now e h = yard_stepped (unmarked e) (ending h.yard (yard_moment h.yard now) t).yard h

-- the first blocked thread was woken where it was due; none exactly where none was due, and the answer then counts the blocked ones
pub record WokenDue (actor now : ℕ) (e : Entry) (value : Option Facts) (h : YardParts) : Type 0 where
  pub entry : e ≡ wake_entry actor h.yard (yard_moment h.yard now) (due_first h.yard (yard_moment h.yard now))
  pub given : value ≡ e.thread
  pub told : is_none value ≡ gives_none e.answer
  pub none : IsNone value ↔ (some_due h.yard (yard_moment h.yard now) ≡ false)

-- the held yard after that
abbrev pub after_woken_due : ℕ → Entry → YardParts → YardParts
after_woken_due now e h = yard_stepped (unmarked e) (waking_at h.yard (yard_moment h.yard now) (due_first h.yard (yard_moment h.yard now))).yard h

-- the moment at which the first blocked thread is woken, due or not
abbrev pub first_moment : RunYard → ℕ → ℕ
first_moment y now = woken_at (first_sleeper y) (yard_moment y now)

-- the first blocked thread was woken, due or not; none exactly where none was blocked, which the answer then tells
pub record WokenFirst (actor now : ℕ) (e : Entry) (value : Option Facts) (h : YardParts) : Type 0 where
  pub entry : e ≡ wake_entry actor h.yard (first_moment h.yard now) (first_sleeper h.yard)
  pub given : value ≡ e.thread
  pub told : is_none value ≡ gives_none e.answer
  pub none : IsNone value ↔ (h.yard.blocked ≡ [])

-- the held yard after that
abbrev pub after_woken_first : ℕ → Entry → YardParts → YardParts
after_woken_first now e h = yard_stepped (unmarked e) (waking_at h.yard (first_moment h.yard now) (first_sleeper h.yard)).yard h
