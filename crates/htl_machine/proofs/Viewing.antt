-- The machine that its fields hold.
use Rattle.htl_machine.proofs.Words.{Seen, seen_by, Inside}

abbrev pub seen_in : Inside → Seen
seen_in m = seen_by m.loaded.now m.show m.spent m.reading m.sensors m.takes m.machines m.path
