-- What reading a platform file answers.
use Rattle.std.specs.Prelude.{◌≡◌, ℕ, List, Option, Some, None, Result, Ok, Err}
use Rattle.htl_model.specs.Tables.{Tables}
use Rattle.htl_platform.specs.{Platforms.document_in, Platforms.platform_of, declared.fault.PlatformFault.PlatformFault, declared.fault.PlatformStop.PlatformStop, declared.platform.Platform.Platform}
use Rattle.htl_platform.specs.declared.fault.PlatformFault.TheVariants as fault
use Rattle.htl_platform.specs.declared.fault.PlatformStop.TheVariants as stop

-- the platform or the fault that is said, unless memory runs out
abbrev pub Tells : Result Platform PlatformFault → Result Platform PlatformStop → Type 0
Tells said (Ok p) = said ≡ Ok p
Tells said (Err (stop.Refused f)) = said ≡ Err f
Tells said (Err stop.Memory) = Unit {0}

abbrev pub IsPlatform : Tables → List ℕ → Result Platform PlatformStop → Type 0
IsPlatform t bytes = Tells (platform_of t bytes)

-- the bytes are no table, unless memory runs out
abbrev pub IsNoDocument : List ℕ → PlatformStop → Type 0
IsNoDocument bytes (stop.Refused f) = (f ≡ fault.Text) × (document_in bytes ≡ None)
IsNoDocument bytes stop.Memory = Unit {0}

-- no fault, or the one that is said, unless memory runs out
abbrev pub IsJudged : Option PlatformFault → Result (Unit {0}) PlatformStop → Type 0
IsJudged said (Ok u) = said ≡ None
IsJudged said (Err (stop.Refused f)) = said ≡ Some f
IsJudged said (Err stop.Memory) = Unit {0}
