-- Two clusters and two actors, each of which selects at home and asks the other for an offer, and gets nothing.
use Rattle.std.specs.Prelude.{List, None, [], ℕ, ◌∷◌}
use Rattle.sched_base.specs.declared.Act.{Act}
use Rattle.flat_policy.specs.declared.journal.Line.{Line}
use Rattle.flat_policy.specs.Runs.Interleaving.{Interleaves}
use Rattle.sched_base.specs.declared.Act.TheVariants as acts
use Rattle.sched_base.specs.declared.Answer.TheVariants as answers

-- a line of an actor at moment 0 that got nothing
abbrev pub got_nothing : ℕ → Act → Line
got_nothing actor act = record {
  entry = record { step = record { moment = 0; actor = actor; act = act }; answer = answers.Empty; thread = None };
  mark = None;
}

-- a line that asks the yard how many are blocked, of which there are none
abbrev pub asks_yard : Line
asks_yard = record {
  entry = record { step = record { moment = 0; actor = 0; act = acts.Blocked }; answer = answers.Left 0; thread = None };
  mark = None;
}

-- actor 0 selects
abbrev pub select_of_0 : Line
select_of_0 = got_nothing 0 acts.Select

-- actor 0 asks cluster 1 for an offer
abbrev pub offer_to_0 : Line
offer_to_0 = got_nothing 0 (acts.Offer 1)

-- actor 1 selects
abbrev pub select_of_1 : Line
select_of_1 = got_nothing 1 acts.Select

-- actor 1 asks cluster 0 for an offer
abbrev pub offer_to_1 : Line
offer_to_1 = got_nothing 1 (acts.Offer 0)

-- the journals of the clusters
abbrev pub two_journals : List (List Line)
two_journals = (select_of_0 ∷ offer_to_1 ∷ []) ∷ (select_of_1 ∷ offer_to_0 ∷ []) ∷ []

-- the logs of the actors
abbrev pub two_logs : List (List Line)
two_logs = (select_of_0 ∷ offer_to_0 ∷ []) ∷ (select_of_1 ∷ offer_to_1 ∷ []) ∷ []

-- after actor 0's select, actor 1's select comes before actor 0's offer
abbrev pub TwoAreMerged : Type 0
TwoAreMerged = Interleaves two_journals [] two_logs (select_of_0 ∷ select_of_1 ∷ offer_to_0 ∷ offer_to_1 ∷ [])

-- the journals the other way round
abbrev pub crossed_journals : List (List Line)
crossed_journals = (offer_to_1 ∷ select_of_0 ∷ []) ∷ (offer_to_0 ∷ select_of_1 ∷ []) ∷ []
