-- Chains of plain jumps of which it is known where they lead.
use Rattle.std.specs.Prelude.{ℕ, zero, suc, ◌≡◌, false, List, get_or, slice_get, Option, Some, None, Result, Ok, Err}
use Rattle.htl_ecode.specs.{declared.instr.EInstr.EInstr, Jumps.jump_to, declared.fault.EFault.EFault}
use Rattle.htl_espell.specs.{declared.chains.JumpChain.JumpChain, declared.resolving.Followed.Followed}

abbrev pub jump_at : List EInstr → ℕ → Option ℕ
jump_at code a = elim (slice_get code a) [ Some i ↦ jump_to i | None ↦ None ]

-- where so many plain jumps lead from an address
abbrev pub after_jumps : List EInstr → ℕ → ℕ → Option ℕ
after_jumps code a zero = Some a
after_jumps code a (suc n) = elim (jump_at code a) [ Some x ↦ after_jumps code x n | None ↦ None ]

abbrev pub no_chain : JumpChain
no_chain = record { anchor = 0; place = 0; jumps = 0; resolved = false }

-- what each of these says of the code holds
abbrev pub AreJumpChains : List EInstr → List JumpChain → Type 0
AreJumpChains code cells = (k : ℕ) → after_jumps code (get_or cells k no_chain).place (get_or cells k no_chain).jumps ≡ Some (get_or cells k no_chain).anchor

-- where a chain leads that was followed
abbrev pub anchor_of : Result Followed EFault → Result ℕ EFault
anchor_of (Ok f) = Ok f.chain.anchor
anchor_of (Err e) = Err e
