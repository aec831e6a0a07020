use Rattle.htl_parse.proofs.{Words.map, Words.program_of, Words.source_at, Whole.whole-ended, Whole.whole-more}
use Rattle.htl_parse.proofs.parser.whole_source.Goals as goal

pub returns-then-is_done : goal.returns-then-is_done
returns-then-is_done c = whole-ended (source_at c.args.cursor.now) (map program_of c.in_ok-programs.programs) c.source.new.cursor c.in_ok-programs.ensures c.if-is_done.ensures

pub returns-else-is_done : goal.returns-else-is_done
returns-else-is_done c = whole-more (source_at c.args.cursor.now) (map program_of c.in_ok-programs.programs) c.source.new.cursor c.in_ok-programs.ensures c.if-is_done.ensures
