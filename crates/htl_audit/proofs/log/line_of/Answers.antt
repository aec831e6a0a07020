use Rattle.std.proofs.Common.{sym}
use Rattle.htl_audit.proofs.Reading.{many_fields}
use Rattle.htl_audit.proofs.log.line_of.Goals as goal

pub returns-in-Some-cut-3-clause-line : goal.returns-in-Some-cut-3-clause-line
returns-in-Some-cut-3-clause-line c =
    let field = c.in-Some-cut-3.field-0 in
    sym (many_fields c.args.names.now c.args.text.now c.in-Some.rest.now c.in-Some-cut.rest.now c.in-Some-cut-2.name.now c.in-Some.word.now c.in-Some-cut.from.now c.in-Some-cut-2.to.now field.0.now field.1.now
    c.in-Some.ensures c.in-Some-cut.ensures c.in-Some-cut-2.ensures c.in-Some-cut-3.ensures)
