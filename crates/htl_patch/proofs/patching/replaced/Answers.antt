use Rattle.std.proofs.Common.{◌≡◌, ℕ, Some, All, subst}
use Rattle.htl_patch.proofs.{Words.AskTheSame, Words.KeepsLimits, Words.IsAccepted, Words.IsFunctionCode, Words.Object, Words.replacement_of, Words.Joins, Words.patched, Words.Replacement, Words.replacement, Accepting.replacement_is}
use Rattle.htl_patch.proofs.Answering.{replacement_named, made_ok, made_err, given, patched_by, late_stop, early_stop}
use Rattle.htl_patch.proofs.patching.replaced.Goals as goal
use Rattle.htl_patch.proofs.patching.replaced.Goals.{In-Some-mode_named, In-Ok-made}

-- the replacement at the modes that were found
abbrev replacement_found : Object → Object → ℕ → ℕ → Replacement
replacement_found p d into from = replacement p.tables d.tables into from

-- it is that of the names, in what the typed state holds ..
replacement_held : (c : In-Some-mode_named)
    → replacement_of c.object.result.now.tables c.args.donor.now.tables c.args.unit.now c.args.mode.now ≡ Some (replacement_found c.object.result.now c.args.donor.now c.in-Some.into c.in-Some-mode_named.from)
replacement_held c = replacement_named c.object.result.now c.args.donor.now c.args.unit.now c.args.mode.now c.in-Some.into c.in-Some-mode_named.from c.in-Some.ensures c.in-Some-mode_named.ensures

-- .. and in the object that it is
replacement_of_names : (c : In-Some-mode_named)
    → replacement_of c.args.o.now.tables c.args.donor.now.tables c.args.unit.now c.args.mode.now ≡ Some (replacement_found c.object.result.now c.args.donor.now c.in-Some.into c.in-Some-mode_named.from)
replacement_of_names c =
    subst (λ (x : Object). replacement_of x.tables c.args.donor.now.tables c.args.unit.now c.args.mode.now ≡ Some (replacement_found c.object.result.now c.args.donor.now c.in-Some.into c.in-Some-mode_named.from))
    c.object.ensures.value (replacement_held c)

-- its tables were made
tables_made : (c : In-Ok-made)
    → (c.in-Ok-made.tables ≡ patched (replacement_found c.object.result.now c.args.donor.now c.in-Some.into c.in-Some-mode_named.from)) × Joins (replacement_found c.object.result.now c.args.donor.now c.in-Some.into c.in-Some-mode_named.from)
tables_made c = made_ok (replacement_found c.object.result.now c.args.donor.now c.in-Some.into c.in-Some-mode_named.from) c.in-Ok.made c.in-Ok-made.tables c.in-Ok-made.is c.in-Ok.ensures

-- what accepting them asks for
asked_of_tables : (c : In-Ok-made)
    → replacement_of c.args.o.now.tables c.args.donor.now.tables c.args.unit.now c.args.mode.now ≡ Some (replacement_found c.object.result.now c.args.donor.now c.in-Some.into c.in-Some-mode_named.from)
    → KeepsLimits c.in-Ok-made.tables × All IsFunctionCode c.in-Ok-made.tables.functions × AskTheSame c.in-Ok-made.tables c.args.o.now.tables
asked_of_tables c is =
    let tables = tables_made c in
    given c.args.o.now c.args.donor.now c.args.unit.now c.args.mode.now (replacement_found c.object.result.now c.args.donor.now c.in-Some.into c.in-Some-mode_named.from) is c.in-Ok-made.tables tables.0 tables.1
    (subst IsAccepted c.object.ensures.value c.object.ensures.accepted) c.requires

pub with_replacement-requires-clause-patched_mode : goal.with_replacement-requires-clause-patched_mode
with_replacement-requires-clause-patched_mode c =
    (replacement_is c.object.result.now.tables c.args.donor.now.tables c.args.unit.now c.args.mode.now (replacement_found c.object.result.now c.args.donor.now c.in-Some.into c.in-Some-mode_named.from)
    (replacement_held (goal.at.with_replacement-requires-clause-patched_mode c).In-Some-mode_named)).into

pub with_replacement-requires-clause-replacing_mode : goal.with_replacement-requires-clause-replacing_mode
with_replacement-requires-clause-replacing_mode c =
    (replacement_is c.object.result.now.tables c.args.donor.now.tables c.args.unit.now c.args.mode.now (replacement_found c.object.result.now c.args.donor.now c.in-Some.into c.in-Some-mode_named.from)
    (replacement_held (goal.at.with_replacement-requires-clause-replacing_mode c).In-Some-mode_named)).from

pub accept-requires-clause-limits : goal.accept-requires-clause-limits
accept-requires-clause-limits c =
    let back = goal.at.accept-requires-clause-limits c in
    (asked_of_tables back.In-Ok-made (replacement_of_names back.In-Some-mode_named)).0

pub accept-requires-clause-coded : goal.accept-requires-clause-coded
accept-requires-clause-coded c =
    let back = goal.at.accept-requires-clause-coded c in
    (asked_of_tables back.In-Ok-made (replacement_of_names back.In-Some-mode_named)).1

pub accept-requires-clause-same : goal.accept-requires-clause-same
accept-requires-clause-same c =
    let back = goal.at.accept-requires-clause-same c in
    (asked_of_tables back.In-Ok-made (replacement_of_names back.In-Some-mode_named)).2

pub returns-in-Ok-made-clause-patched : goal.returns-in-Ok-made-clause-patched
returns-in-Ok-made-clause-patched c =
    let back = goal.at.returns-in-Ok-made-clause-patched c in
    let tables = tables_made back.In-Ok-made in
    patched_by c.args.o.now c.args.donor.now c.args.unit.now c.args.mode.now (replacement_found c.object.result.now c.args.donor.now c.in-Some.into c.in-Some-mode_named.from) (replacement_of_names back.In-Some-mode_named)
    c.in-Ok-made.tables tables.0 tables.1 c.accept.result c.accept.ensures.accepted

pub returns-in-Ok-made-clause-fault : goal.returns-in-Ok-made-clause-fault
returns-in-Ok-made-clause-fault c =
    let back = goal.at.returns-in-Ok-made-clause-fault c in
    let tables = tables_made back.In-Ok-made in
    late_stop c.args.o.now c.args.donor.now c.args.unit.now c.args.mode.now (replacement_found c.object.result.now c.args.donor.now c.in-Some.into c.in-Some-mode_named.from) (replacement_of_names back.In-Some-mode_named)
    c.in-Ok-made.tables tables.0 tables.1 c.accept.result c.accept.ensures.stop

pub returns-in-Err-made-clause-fault : goal.returns-in-Err-made-clause-fault
returns-in-Err-made-clause-fault c =
    let g = replacement_found c.object.result.now c.args.donor.now c.in-Some.into c.in-Some-mode_named.from in
    early_stop c.args.o.now c.args.donor.now c.args.unit.now c.args.mode.now g (replacement_of_names (goal.at.returns-in-Err-made-clause-fault c).In-Some-mode_named) c.in-Err-made.fault
    (made_err g c.in-Ok.made c.in-Err-made.fault c.in-Err-made.is c.in-Ok.ensures)
