use Rattle.std.proofs.Common.{arith, ◌<◌, ◌-◌, ℕ, List, length, sym, subst, ap, refl}
use Rattle.htl_text.proofs.{Words.zip, Words.tokens_in, Words.offsets_of, Words.IsFront, Words.Entry, Words.Front, Keeping.AreKeeping, Keeping.AreKeeping-all, Keeping.AreKeeping-push, Lengths.token_len-fits}
use Rattle.htl_text.proofs.Cutting.{cut-char, cut-number, cut-name, cut-shorter, not_empty, is_empty, skip-fits}
use Rattle.htl_text.proofs.lexer.read_tokens.Goals as goal

pub hold-requires : goal.hold-requires
hold-requires c =
    AreKeeping-all c.args.bytes.now c.loop-here.rest.now c.skip-here.result.now c.loop-here.entries.items c.requires c.loop-here.invariant c.skip-here.ensures
    (is_empty c.skip-here.result.now (sym c.if-is_empty.ensures))

pub overflow_sub-offset : goal.overflow_sub-offset
overflow_sub-offset c =
    let m = skip-fits c.loop-here.rest.now in
    let h = ap length c.skip-here.ensures in
    omega (arith, m, h, c.loop-here.invariant.found.cutting.at)

pub overflow_cast-len : goal.overflow_cast-len
overflow_cast-len c =
    let m = skip-fits c.loop-here.rest.now in
    let h = ap length c.skip-here.ensures in
    let is = subst (λ (f : Front). IsFront c.skip-here.result.now f) c.in-Token.is c.read_front.ensures in
    let fits = token_len-fits c.skip-here.result.now in
    omega (arith, m, h, c.loop-here.invariant.found.cutting.at, c.requires, is.1, fits)

pub split_at-requires : goal.split_at-requires
split_at-requires c =
    let is = subst (λ (f : Front). IsFront c.skip-here.result.now f) c.in-Token.is c.read_front.ensures in
    let fits = token_len-fits c.skip-here.result.now in
    omega (arith, is.1, fits)

pub loop-here-smaller : goal.loop-here-smaller
loop-here-smaller c =
    let here = c.skip-here.result.now in
    let is = subst (λ (f : Front). IsFront here f) c.in-Token.is c.read_front.ensures in
    let fits = token_len-fits here in
    subst (λ (xs : List ℕ). length xs < length c.loop-here.rest.now) (sym c.split_at.ensures.back)
    (cut-shorter c.loop-here.rest.now here c.in-Token.len c.skip-here.ensures is.0 (omega (arith, is.1, fits)))

pub loop-here-preserved : goal.loop-here-preserved
loop-here-preserved c =
    let here = c.skip-here.result.now in
    let entry : Entry = record { kind = c.in-Token.kind; offset = length c.args.bytes.now - length here; len = c.in-Token.len } in
    subst (λ (es : List Entry). AreKeeping c.args.bytes.now c.split_at.result.1.now es) (sym c.in_ok-push-in-Token.ensures.items)
    (AreKeeping-push c.args.bytes.now c.loop-here.rest.now here c.split_at.result.1.now c.loop-here.entries.items entry c.loop-here.invariant c.skip-here.ensures
    (not_empty here (sym c.if-is_empty.ensures)) (subst (λ (f : Front). IsFront here f) c.in-Token.is c.read_front.ensures) refl c.split_at.ensures.back)

pub returns-in-Nothing : goal.returns-in-Nothing
returns-in-Nothing c =
    let here = c.skip-here.result.now in
    let is = subst (λ (f : Front). IsFront here f) c.in-Nothing.is c.read_front.ensures in
    cut-char c.args.bytes.now c.loop-here.rest.now here (zip (tokens_in c.args.bytes.now c.loop-here.entries.items) (offsets_of c.loop-here.entries.items)) c.loop-here.invariant.found.cutting c.skip-here.ensures
    (not_empty here (sym c.if-is_empty.ensures)) is _ refl

pub returns-in-LargeNumber : goal.returns-in-LargeNumber
returns-in-LargeNumber c =
    let here = c.skip-here.result.now in
    let is = subst (λ (f : Front). IsFront here f) c.in-LargeNumber.is c.read_front.ensures in
    cut-number c.args.bytes.now c.loop-here.rest.now here (zip (tokens_in c.args.bytes.now c.loop-here.entries.items) (offsets_of c.loop-here.entries.items)) c.loop-here.invariant.found.cutting c.skip-here.ensures
    (not_empty here (sym c.if-is_empty.ensures)) is.0 _ refl is.1 is.2

pub returns-in-LongName : goal.returns-in-LongName
returns-in-LongName c =
    let here = c.skip-here.result.now in
    let is = subst (λ (f : Front). IsFront here f) c.in-LongName.is c.read_front.ensures in
    cut-name c.args.bytes.now c.loop-here.rest.now here (zip (tokens_in c.args.bytes.now c.loop-here.entries.items) (offsets_of c.loop-here.entries.items)) c.loop-here.invariant.found.cutting c.skip-here.ensures
    (not_empty here (sym c.if-is_empty.ensures)) is.0 _ refl is.1 is.2
