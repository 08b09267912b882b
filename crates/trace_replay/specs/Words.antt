-- What the words after the program's name ask for.
use Rattle.std.specs.Prelude.{◌≡◌, ◌<◌, ◌≤◌, ◌^◌, ⊤, ℕ, List, Option, None, Some, codes}
use Rattle.std.specs.Prelude.{true, option_map, pos, if◌then◌else◌}
use Rattle.std.specs.Str.Parse.{digits_value, without_leading_plus}
use Rattle.clap.specs.Walk.{is_empty}
use Rattle.clap.specs.Words.{App, Rule, Text, fault_of, matches_of, new_app, new_rule, one_of, with_rule}
use Rattle.clap.specs.declared.builder.action.ArgAction.TheVariants.{Set}
use Rattle.clap.specs.declared.builder.value_parser.ValueParser.{ValueParser}
use Rattle.clap.specs.declared.builder.value_parser.ValueParser.TheVariants.{Signed}
use Rattle.clap.specs.declared.error.kind.ErrorKind.{ErrorKind}
use Rattle.clap.specs.declared.error.kind.ErrorKind.TheVariants as kind
use Rattle.trace_replay.specs.declared.status.ReplayStatus.{ReplayStatus}
use Rattle.trace_replay.specs.declared.status.ReplayStatus.TheVariants.{OutOfMemory, Usage}
use Rattle.trace_replay.specs.declared.words.Asked.{Asked}
use Rattle.trace_replay.specs.declared.words.Asked.TheVariants.{Load, Replay}

-- the option `--name`, with one value that the parser takes
abbrev pub number_rule : Text → ValueParser → Rule
number_rule name parser =
    record (new_rule name) { long = Some name; action = Some Set; parser = Some parser }

-- the command, with no program's name in front of its words and no option yet
abbrev pub bare_command : App
bare_command =
    let app = new_app (codes "clutch_replay") in
    record app { top = record app.top { no_binary_name = true } }

-- the command: `--load`, a number of 32 bits, and `--steps`, one from 1 to 200,000
unfoldable pub replay_command : App
replay_command =
    with_rule (with_rule bare_command (number_rule (codes "load") (Signed (pos 0) (pos 4294967295))))
    (number_rule (codes "steps") (Signed (pos 1) (pos 200000)))

-- the number that stands with an option among the words
abbrev pub number_of : Text → List Text → Option ℕ
number_of name words = option_map (λ text. digits_value 10 (without_leading_plus text))
    (one_of name (matches_of replay_command words))

-- what a seed and a number of steps ask for, which stand together or not at all
abbrev pub asked_of : Option ℕ → Option ℕ → Option Asked
asked_of None None = Some Replay
asked_of (Some seed) (Some steps) = Some (Load seed steps)
asked_of _ _ = None

-- what words ask for: a replay, or the load of a seed and so many steps; nothing where the command
-- doesn't take them or one option stands without the other
unfoldable pub asked_by : List Text → Option Asked
asked_by words = if is_empty (fault_of replay_command words)
    then asked_of (number_of (codes "load") words) (number_of (codes "steps") words) else None

-- the status of words that clap refuses with this kind of error
abbrev pub refusal_of : ErrorKind → ReplayStatus
refusal_of kind.OutOfMemory = OutOfMemory
refusal_of _ = Usage

-- the words ask for nothing, or memory ran out
abbrev pub IsRefusal : Option Asked → ReplayStatus → Type 0
IsRefusal asked Usage = asked ≡ None
IsRefusal asked OutOfMemory = ⊤
IsRefusal asked _ = ⊥

-- a load has a seed of 32 bits and from 1 to 200,000 steps
abbrev pub LoadIsInRange : Asked → Type 0
LoadIsInRange (Load seed steps) = (seed < 2 ^ 32) × (1 ≤ steps) × (steps ≤ 200000)
LoadIsInRange Replay = ⊤
