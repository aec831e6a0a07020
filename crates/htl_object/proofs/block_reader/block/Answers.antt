use Rattle.std.proofs.Common.{ℕ, List, length, map, Err, sym, ap, subst, ◌∙◌, arith}
use Rattle.htl_object.proofs.Words.{block_at, IsBytes, Fails, bad_at, Spelling, Stop}
use Rattle.htl_object.proofs.BlockReading.{piece_read, rest_shorter, new_piece, block_given, block_refused, pieces_more}
use Rattle.htl_object.proofs.block_reader.block.Goals as goal

pub taken-piece-requires : goal.taken-piece-requires
taken-piece-requires c =
    let are : IsBytes c.args.cursor.now = subst IsBytes c.rest-bytes.ensures (λ i. omega (arith, c.type_inv.bytes i)) in
    let shorter = rest_shorter c.args.cursor.now c.in_ok-schedule.schedule c.read.new.cursor are c.in_ok-schedule.ensures in
    omega (arith, shorter, c.left.ensures, ap (λ (b : List ℕ). length b) c.rest-bytes.ensures)

pub returns-then-not-branch-clause-gives : goal.returns-then-not-branch-clause-gives
returns-then-not-branch-clause-gives c =
    let s = c.in_ok-schedule.schedule in
    let piece = piece_read c.rest-bytes.result.now c.args.cursor.now c.taken-piece.result.now c.left.result s c.read.new.cursor c.taken-piece.ensures.bytes c.rest-bytes.ensures c.left.ensures c.taken-piece.ensures.front c.in_ok-schedule.ensures in
    let pieces = map (λ p. p.bytes.now) c.args.pieces.now.keys in
    let new = new_piece pieces c.args.before.now c.taken-piece.result.now s c.in_ok-add.field-0 c.requires piece c.in_ok-add.ensures.added in
    let refused = block_refused c.args.before.now c.args.cursor.now s c.read.new.cursor c.in_ok-schedule.ensures (new ∙ c.if-not-branch.true) in
    subst (λ (e : Stop). Fails e (block_at c.args.before.now c.args.cursor.now)) (sym c.bad.ensures) (refused ∙ ap (λ (b : List ℕ). Err (bad_at Spelling b)) (sym c.rest-bytes.ensures))

pub returns-clause-gives : goal.returns-clause-gives
returns-clause-gives c =
    let s = c.in_ok-schedule.schedule in
    let piece = piece_read c.rest-bytes.result.now c.args.cursor.now c.taken-piece.result.now c.left.result s c.read.new.cursor c.taken-piece.ensures.bytes c.rest-bytes.ensures c.left.ensures c.taken-piece.ensures.front c.in_ok-schedule.ensures in
    let pieces = map (λ p. p.bytes.now) c.args.pieces.now.keys in
    let new = new_piece pieces c.args.before.now c.taken-piece.result.now s c.in_ok-add.field-0 c.requires piece c.in_ok-add.ensures.added in
    block_given c.args.before.now c.args.cursor.now s c.read.new.cursor c.in_ok-schedule.ensures (new ∙ c.if-not-branch.false)

pub returns-clause-spelled : goal.returns-clause-spelled
returns-clause-spelled c =
    let s = c.in_ok-schedule.schedule in
    let piece = piece_read c.rest-bytes.result.now c.args.cursor.now c.taken-piece.result.now c.left.result s c.read.new.cursor c.taken-piece.ensures.bytes c.rest-bytes.ensures c.left.ensures c.taken-piece.ensures.front c.in_ok-schedule.ensures in
    let pieces = map (λ p. p.bytes.now) c.args.pieces.now.keys in
    let new = new_piece pieces c.args.before.now c.taken-piece.result.now s c.in_ok-add.field-0 c.requires piece c.in_ok-add.ensures.added in
    pieces_more pieces (map (λ p. p.bytes.now) c.add.new.pieces.keys) c.args.before.now c.taken-piece.result.now s c.requires piece (new ∙ c.if-not-branch.false) c.in_ok-add.ensures.pieces
