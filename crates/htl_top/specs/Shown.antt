-- What `show` answers of an accepted object.
use Rattle.htl_top.specs.Common.{ℕ, List, Object}
use Rattle.htl_console.specs.Listing.{listing}

-- the listing of an object
abbrev pub show_text : Object → List ℕ
show_text o = listing o.platform o.tables o.ecode o.schedules
