use Rattle.htl_top.proofs.check.write_check.Goals as goal

pub returns : goal.returns
returns g c = rw (c.as_bytes.ensures.bytes, c.check_line-line.ensures, c.most_positions.ensures, c.survey-f.ensures.paths) at c.put_all.ensures
