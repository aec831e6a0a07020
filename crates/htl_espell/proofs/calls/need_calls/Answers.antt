use Rattle.std.proofs.Common.{inl, inr, true, false, refl, ◌≡◌, ◌∙◌, Ok, Err, List, eqb, ap, rules}
use Rattle.htl_espell.proofs.{Words.number_of, Words.joined, Words.numbered, Words.EInstr, Words.next_of, Words.release_wants, Chaining.calls_read}
use Rattle.htl_espell.proofs.calls.need_calls.Goals as goal

pub returns-in-Write-clause-read : goal.returns-in-Write-clause-read
returns-in-Write-clause-read c =
    let block = c.args.block.now in
    calls_read c.args.code.now block.t.now block.run.mode (number_of block.phase) block.offset c.args.at (Ok c.in_ok-place.place) true (ap (λ p. eqb (number_of p) 1) c.in-Write.is) c.in_ok-place.ensures.read

pub returns-in-Switch-clause-read : goal.returns-in-Switch-clause-read
returns-in-Switch-clause-read c =
    let block = c.args.block.now in
    let later : eqb (number_of block.phase) 1 ≡ false = elim c.in-Switch.is [ inl e ↦ ap (λ p. eqb (number_of p) 1) e | inr e ↦ ap (λ p. eqb (number_of p) 1) e ] in
    c.need_releases.ensures.read
    ∙ ap (λ (z : List EInstr). next_of z c.in_ok-place.place (joined (release_wants block.t.now block.run.mode block.offset) (numbered 0 block.t.now.invs))) c.in_ok-place.ensures.same
    ∙ calls_read c.args.code.now block.t.now block.run.mode (number_of block.phase) block.offset c.args.at (Ok c.in_ok-place.place) false later c.in_ok-place.ensures.read

pub returns-in_err-place-clause-read : goal.returns-in_err-place-clause-read
returns-in_err-place-clause-read c =
    let block = c.args.block.now in
    let departs : c.from_residual.result ≡ Err c.in_err-place.field-0.0 = search rules in
    departs
    ∙ calls_read c.args.code.now block.t.now block.run.mode (number_of block.phase) block.offset c.args.at (Err c.in_err-place.field-0.0) (eqb (number_of block.phase) 1) refl c.in_err-place.ensures.read
