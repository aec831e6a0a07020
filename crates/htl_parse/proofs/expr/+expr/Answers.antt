use Rattle.std.proofs.Common.{rules, ◌≡◌, ◌-◌, ℕ, length, ap₂, refl, sym, subst}
use Rattle.htl_parse.proofs.{Words.err_from_is_err_and, Words.Expr, Words.Prefix, Words.Infix, Words.Choice, Words.read_expr, Descent.unary-plain, Fixed.read_expr-is}
use Rattle.htl_parse.proofs.Climbing.{IsClimbing, climbing-start, climbing-more, climbing-stopped, climbing-done}
use Rattle.htl_parse.proofs.Pushing.{put-prefix, put-infix, put-choice, chosen-is, prefix-read}
use Rattle.htl_parse.proofs.expr.+expr.Goals as goal

pub whole-returns-clause-reads : goal.whole-returns-clause-reads
whole-returns-clause-reads t c = rw (read_expr-is c.args.cursor.now) c.binary.ensures.reads

pub binary-loop-token-init : goal.binary-loop-token-init
binary-loop-token-init t c =
    let put = c.in_ok-unary.ensures.reads in
    (put.0, climbing-start c.args.loosest c.args.cursor.now c.unary.new.cursor put.0 c.requires put.1 c.in_ok-unary.ensures.less, put.2)

pub binary-loop-token-preserved : goal.binary-loop-token-preserved
binary-loop-token-preserved t c =
    let stands = c.loop-token.invariant in
    let put = c.in_ok-binary.ensures.reads in
    let before : c.len-before.result ≡ length c.loop-token.nodes.items = search rules in
    let after : c.len.result ≡ length c.binary.new.nodes.items = search rules in
    let e : Expr = Infix c.in-Some.token c.in-Some.op stands.0 put.0 in (
      e,
      subst (λ (limit : ℕ). IsClimbing c.args.loosest c.args.cursor.now c.binary.new.cursor limit e) (sym c.limit_behind-limit.ensures)
          (climbing-more c.args.loosest c.args.cursor.now c.loop-token.cursor c.loop-token.limit stands.0 stands.1
          c.binary_operator.new.self c.binary.new.cursor c.in-Some.token c.in-Some.level c.in-Some.op put.0 e c.in-Some.ensures put.1 c.in_ok-binary.ensures.less refl),
      put-infix c.args.nodes.now.items c.loop-token.nodes.items c.binary.new.nodes.items c.push.new.self.items c.in-Some.token _ c.in-Some.op stands.0 put.0 stands.2 put.2
          (ap₂ (λ (a b : ℕ). a - b) after before) c.in_ok-push.ensures.items,
    )

pub binary-returns-clause-reads : goal.binary-returns-clause-reads
binary-returns-clause-reads t c =
    let stands = c.loop-token.invariant in (
      stands.0,
      climbing-done c.args.loosest c.args.cursor.now c.loop-token.cursor c.loop-token.limit stands.0 stands.1 c.binary_operator.new.self c.in_default.ensures,
      stands.2,
    )

pub binary-returns-in_err-binary-clause-reads : goal.binary-returns-in_err-binary-clause-reads
binary-returns-in_err-binary-clause-reads t c =
    let p = err_from_is_err_and c.from_residual-in_err-binary.result c.from_residual-in_err-binary.ensures.1 in
    let stands = c.loop-token.invariant in
    rw (p.1, p.2)
    (climbing-stopped c.args.loosest c.args.cursor.now c.loop-token.cursor c.loop-token.limit stands.0 stands.1 c.loop-token.nodes.items c.binary.new.nodes.items _ _
    c.binary_operator.new.self c.binary.new.cursor c.in-Some.token c.in-Some.level c.in-Some.op c.in_err-binary.field-0.0 c.in-Some.ensures c.in_err-binary.ensures.reads)

pub unary-returns-in_default-clause-reads : goal.unary-returns-in_default-clause-reads
unary-returns-in_default-clause-reads t c = rw (unary-plain c.args.cursor.now c.prefix_operator.new.self c.in_default.ensures) c.atom.ensures.reads

pub unary-returns-clause-reads : goal.unary-returns-clause-reads
unary-returns-clause-reads t c =
    let put = c.in_ok-unary.ensures.reads in (
      Prefix c.in-Some.token c.in-Some.op put.0,
      prefix-read read_expr c.in-Some.token c.in-Some.op c.args.cursor.now c.prefix_operator.new.self c.unary.new.cursor put.0 c.in-Some.ensures put.1,
      put-prefix c.args.nodes.now.items c.unary.new.nodes.items c.push.new.self.items c.in-Some.token c.in-Some.op put.0 put.2 c.in_ok-push.ensures.items,
    )

pub choice-returns-clause-reads : goal.choice-returns-clause-reads
choice-returns-clause-reads t c =
    let one = c.in_ok-whole.ensures.reads in
    let two = c.in_ok-whole-2.ensures.reads in
    let three = c.in_ok-whole-3.ensures.reads in
    let first : c.len-one.result ≡ length c.whole.new.nodes.items = search rules in
    let second : c.len-two.result ≡ length c.whole-2.new.nodes.items = search rules in
    let last : c.len.result ≡ length c.whole-3.new.nodes.items = search rules in (
      Choice c.args.token one.0 two.0 three.0,
      chosen-is read_expr c.args.token c.args.cursor.now c.expect.new.self c.expect-2.new.self c.expect-3.new.self c.whole.new.cursor c.whole-2.new.cursor c.whole-3.new.cursor
          c.expect-4.new.self one.0 two.0 three.0 c.in_ok-expect.ensures one.1 c.in_ok-expect-2.ensures two.1 c.in_ok-expect-3.ensures three.1 c.in_ok-expect-4.ensures,
      put-choice c.args.nodes.now.items c.whole.new.nodes.items c.whole-2.new.nodes.items c.whole-3.new.nodes.items c.push.new.self.items c.args.token _ _ one.0 two.0 three.0
          one.2 two.2 three.2 (ap₂ (λ (a b : ℕ). a - b) second first) (ap₂ (λ (a b : ℕ). a - b) last second) c.in_ok-push.ensures.items,
    )
