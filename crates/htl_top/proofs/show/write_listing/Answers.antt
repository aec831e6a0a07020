use Rattle.htl_top.proofs.show.write_listing.Goals as goal

pub returns : goal.returns
returns g c = rw (c.as_ref.ensures.value, c.platform-platform.ensures, c.tables.ensures.value, c.ecode.ensures, c.schedules.ensures) at c.show.ensures
