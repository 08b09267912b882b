-- Steps as text.
use Rattle.std.specs.Prelude.{List, Ok, [], codes, decimal, ℕ, ◌∷◌}
use Rattle.sched_base.specs.declared.Act.{Act}
use Rattle.sched_base.specs.declared.Step.{Step}
use Rattle.flat_policy.specs.Texts.Pieces.{Reading, Worded, actor_at, base_at, bound_at, bound_piece, bucket_at, bucket_piece, cluster_at, end_at, end_piece, followed_by, group_at, made_of, moment_at, most_of_32, name_at, next_piece, number_within, spaced, word_among, worded}
use Rattle.sched_base.specs.declared.Act.TheVariants as acts

-- the pieces of an act: its word and its arguments
abbrev pub act_pieces : Act → List (List ℕ)
act_pieces (acts.Make name group bucket base bound) =
    codes "make" ∷ decimal name ∷ decimal group ∷ bucket_piece bucket ∷ decimal base ∷ bound_piece bound ∷ []
act_pieces (acts.Enter c head) = codes "enter" ∷ decimal c ∷ end_piece head ∷ []
act_pieces acts.Select = codes "select" ∷ []
act_pieces (acts.Offer c) = codes "offer" ∷ decimal c ∷ []
act_pieces (acts.Pull name) = codes "pull" ∷ decimal name ∷ []
act_pieces (acts.Look c) = codes "look" ∷ decimal c ∷ []
act_pieces acts.Aim = codes "aim" ∷ []
act_pieces (acts.Ran us) = codes "ran" ∷ decimal us ∷ []
act_pieces acts.Sleep = codes "sleep" ∷ []
act_pieces (acts.Wake name) = codes "wake" ∷ decimal name ∷ []
act_pieces acts.End = codes "end" ∷ []
act_pieces acts.Blocked = codes "blocked" ∷ []
act_pieces acts.Refresh = codes "refresh" ∷ []
act_pieces (acts.Off c) = codes "off" ∷ decimal c ∷ []
act_pieces (acts.On c) = codes "on" ∷ decimal c ∷ []

-- the pieces of a step: its moment, its actor and its act
abbrev pub step_pieces : Step → List (List ℕ)
step_pieces s = decimal s.moment ∷ decimal s.actor ∷ act_pieces s.act

-- the text of a step
abbrev pub step_text : Step → List ℕ
step_text s = spaced (step_pieces s)

-- an act, read from the pieces after its word
abbrev pub ArgumentReading : Type 0
ArgumentReading = List (List ℕ) → Reading Act

-- an act that is its word alone
abbrev pub alone : Act → ArgumentReading
alone act ps = Ok (act, ps)

-- a make, from its name on
abbrev pub make_at : ArgumentReading
make_at ps =
    followed_by (name_at ps) (λ name ps1.
    followed_by (group_at ps1) (λ group ps2.
    followed_by (bucket_at ps2) (λ bucket ps3.
    followed_by (base_at ps3) (λ base ps4.
    made_of (λ bound. acts.Make name group bucket base bound) (bound_at ps4)))))

-- an enter, from its cluster on
abbrev pub enter_at : ArgumentReading
enter_at ps = followed_by (cluster_at ps) (λ c rest. made_of (λ head. acts.Enter c head) (end_at rest))

-- an offer, from its cluster on
abbrev pub offer_at : ArgumentReading
offer_at ps = made_of (λ c. acts.Offer c) (cluster_at ps)

-- a pull, from its name on
abbrev pub pull_at : ArgumentReading
pull_at ps = made_of (λ name. acts.Pull name) (name_at ps)

-- a look, from its cluster on
abbrev pub looks_at : ArgumentReading
looks_at ps = made_of (λ c. acts.Look c) (cluster_at ps)

-- a ran, from its span on
abbrev pub ran_at : ArgumentReading
ran_at ps = made_of (λ us. acts.Ran us) (next_piece (number_within most_of_32) ps)

-- a wake, from its name on
abbrev pub wake_at : ArgumentReading
wake_at ps = made_of (λ name. acts.Wake name) (name_at ps)

-- an off, from its cluster on
abbrev pub off_at : ArgumentReading
off_at ps = made_of (λ c. acts.Off c) (cluster_at ps)

-- an on, from its cluster on
abbrev pub on_at : ArgumentReading
on_at ps = made_of (λ c. acts.On c) (cluster_at ps)

-- the words of the acts
abbrev pub act_words : List (Worded ArgumentReading)
act_words =
    worded (codes "make") make_at
    ∷ worded (codes "enter") enter_at
    ∷ worded (codes "select") (alone acts.Select)
    ∷ worded (codes "offer") offer_at
    ∷ worded (codes "pull") pull_at
    ∷ worded (codes "look") looks_at
    ∷ worded (codes "aim") (alone acts.Aim)
    ∷ worded (codes "ran") ran_at
    ∷ worded (codes "sleep") (alone acts.Sleep)
    ∷ worded (codes "wake") wake_at
    ∷ worded (codes "end") (alone acts.End)
    ∷ worded (codes "blocked") (alone acts.Blocked)
    ∷ worded (codes "refresh") (alone acts.Refresh)
    ∷ worded (codes "off") off_at
    ∷ worded (codes "on") on_at
    ∷ []

-- an act, from its word on
abbrev pub act_at : List (List ℕ) → Reading Act
act_at ps = followed_by (next_piece (word_among act_words) ps) (λ arguments rest. arguments rest)

-- a step, from its moment on
abbrev pub step_at : List (List ℕ) → Reading Step
step_at ps =
    followed_by (moment_at ps) (λ moment ps1.
    followed_by (actor_at ps1) (λ actor ps2.
    made_of (λ act. record { moment = moment; actor = actor; act = act }) (act_at ps2)))
