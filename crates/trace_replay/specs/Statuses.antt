-- What a status says of the devices.
use Rattle.std.specs.Prelude.{Bool, true, ℕ, ⊤, ◌≡◌, ◌⊎◌}
use Rattle.ports.specs.Devices.{Rose, one_more}
use Rattle.trace_replay.specs.declared.status.ReplayStatus.{ReplayStatus}
use Rattle.trace_replay.specs.declared.status.ReplayStatus.TheVariants.{OutOfMemory, ReadFault, WriteFault}

-- a read fault is answered only where the source's count of faults rose
abbrev pub HasReadCause : ℕ → ℕ → ReplayStatus → Type 0
HasReadCause before now ReadFault = Rose before now
HasReadCause before now _ = ⊤

-- a write fault is answered only where the sink's count of faults rose
abbrev pub HasWriteCause : ℕ → ℕ → ReplayStatus → Type 0
HasWriteCause before now WriteFault = Rose before now
HasWriteCause before now _ = ⊤

-- over a source that counts its failures exactly: with a read fault one take failed and none followed it, and else none failed
abbrev pub ReadsExactly : ℕ → ℕ → Bool → ReplayStatus → Type 0
ReadsExactly before now failing ReadFault = (now ≡ one_more before) × (failing ≡ true)
ReadsExactly before now failing _ = now ≡ before

-- over a sink that counts its failures exactly: with a write fault one put failed and none followed it, and else none failed; where memory
-- ran out the lines before are put, and that may fail too
abbrev pub PutsOnce : ℕ → ℕ → Bool → ReplayStatus → Type 0
PutsOnce before now failing WriteFault = (now ≡ one_more before) × (failing ≡ true)
PutsOnce before now failing OutOfMemory = (now ≡ before) ⊎ ((now ≡ one_more before) × (failing ≡ true))
PutsOnce before now failing _ = now ≡ before

-- over a sink that counts its failures exactly: with a write fault one put failed and none followed it, and else none failed
abbrev pub PutsExactly : ℕ → ℕ → Bool → ReplayStatus → Type 0
PutsExactly before now failing WriteFault = (now ≡ one_more before) × (failing ≡ true)
PutsExactly before now failing _ = now ≡ before

-- the status where a put of the last lines fails: want of memory stays
abbrev pub when_cut : ReplayStatus → ReplayStatus
when_cut OutOfMemory = OutOfMemory
when_cut _ = WriteFault
