use Rattle.std.proofs.Common.{ℕ, List, [], ◌≡◌, map, sym, subst}
use Rattle.htl_parse.proofs.{Words.program_of, Words.Placed, Words.SpellsSource, Words.SpellNone, Words.IsMisfit, Words.left_of, Words.source_at, Stopping.misfit-left, Whole.IsStopped, Whole.read-spells, Whole.stopped}
use Rattle.htl_parse.proofs.parser.parse_source.Goals as goal

pub returns-in-Ok : goal.returns-in-Ok
returns-in-Ok c =
    subst (λ (ts : List Placed). SpellsSource ts (map program_of c.in-Ok.programs) []) c.new-cursor.ensures
    (read-spells c.new-cursor.result (map program_of c.in-Ok.programs) c.in-Ok.ensures)

pub misfit-token-requires : goal.misfit-token-requires
misfit-token-requires c =
    let h = rw c.in-Err-Syntax.field-0-is at c.in-Err-Syntax.ensures in
    (misfit-left c.args.tokens.now.tokens c.whole_source.new.cursor (subst (λ (ts : List Placed). left_of (source_at ts) ≡ c.whole_source.new.cursor) c.new-cursor.ensures h.0)).within

pub returns-in-Err-Syntax : goal.returns-in-Err-Syntax
returns-in-Err-Syntax c =
    let h = rw c.in-Err-Syntax.field-0-is at c.in-Err-Syntax.ensures in
    subst (λ (k : ℕ). SpellNone c.args.tokens.now.tokens × IsMisfit c.args.tokens.now.tokens k) (sym c.misfit-token.ensures)
    (stopped c.args.tokens.now.tokens c.whole_source.new.cursor (subst (IsStopped c.whole_source.new.cursor) c.new-cursor.ensures h))
