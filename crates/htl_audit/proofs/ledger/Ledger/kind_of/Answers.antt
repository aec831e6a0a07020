use Rattle.std.proofs.Common.{◌≡◌, ◌<◌, ℕ, true, false, List, [], length, get_or, All, ap, sym, ◌∙◌, subst, arith}
use Rattle.htl_audit.proofs.{Words.feeders_of, Words.are_done, Words.Kept, Words.is_inside, Words.length-list_to, Feeding.row_is, Feeding.feeders_within, Feeding.kind_last}
use Rattle.htl_audit.proofs.ledger.Ledger.kind_of.Goals as goal

pub row-requires : goal.row-requires
row-requires c = omega (arith, c.requires.inv, ap (λ (rs : List (List ℕ)). length rs) c.requires.feeders, length-list_to (feeders_of c.args.t.now) (length c.args.t.now.invs))

pub are_done-requires : goal.are_done-requires
are_done-requires c =
    let t = c.args.t.now in
    let row : c.row.result.now ≡ feeders_of t c.args.x.inv = c.row.ensures ∙ ap (λ (rs : List (List ℕ)). get_or rs c.args.x.inv []) c.requires.feeders ∙ row_is t c.args.x.inv c.requires.inv in
    subst (λ ns. All (λ n. n < length c.args.self.now.roster.stands) ns) (sym row) (subst (λ m. All (λ n. n < m) (feeders_of t c.args.x.inv)) (sym c.requires.rows) (feeders_within t c.args.x.inv))

pub returns-then-not-are_done : goal.returns-then-not-are_done
returns-then-not-are_done c =
    let t = c.args.t.now in
    let k : Kept = c.args.self.now in
    let x = c.args.x in
    let row : c.row.result.now ≡ feeders_of t x.inv = c.row.ensures ∙ ap (λ (rs : List (List ℕ)). get_or rs x.inv []) c.requires.feeders ∙ row_is t x.inv c.requires.inv in
    let sums : c.as_slice-2.result.now ≡ k.sums = c.as_slice-2.ensures ∙ ap (λ (z : Kept). z.sums) c.self.view_is in
    let lengths : c.as_slice.result.now ≡ k.roster.lengths = c.as_slice.ensures ∙ ap (λ (z : Kept). z.roster.lengths) c.self.view_is in
    let inside : is_inside t k.roster x ≡ true = sym c.is_inside.ensures ∙ c.if-not-is_inside.false in
    let done : are_done k.roster k.sums (feeders_of t x.inv) ≡ false = ap (are_done k.roster k.sums) (sym row) ∙ sym c.are_done.ensures ∙ c.if-not-are_done.true in
    sym (kind_last t c.args.now k x false (omega (arith, c.if-x.false)) (omega (arith, c.if-x-self.false, ap (λ (z : Kept). z.end) c.self.view_is)) (omega (arith, c.if-now-x.false)) inside
    (omega (arith, c.if-as_slice-i.false, ap (λ (ns : List ℕ). get_or ns x.inv 0) sums, ap (λ (ns : List ℕ). get_or ns x.inv 0) lengths)) done)

pub returns : goal.returns
returns c =
    let t = c.args.t.now in
    let k : Kept = c.args.self.now in
    let x = c.args.x in
    let row : c.row.result.now ≡ feeders_of t x.inv = c.row.ensures ∙ ap (λ (rs : List (List ℕ)). get_or rs x.inv []) c.requires.feeders ∙ row_is t x.inv c.requires.inv in
    let sums : c.as_slice-2.result.now ≡ k.sums = c.as_slice-2.ensures ∙ ap (λ (z : Kept). z.sums) c.self.view_is in
    let lengths : c.as_slice.result.now ≡ k.roster.lengths = c.as_slice.ensures ∙ ap (λ (z : Kept). z.roster.lengths) c.self.view_is in
    let inside : is_inside t k.roster x ≡ true = sym c.is_inside.ensures ∙ c.if-not-is_inside.false in
    let done : are_done k.roster k.sums (feeders_of t x.inv) ≡ true = ap (are_done k.roster k.sums) (sym row) ∙ sym c.are_done.ensures ∙ c.if-not-are_done.false in
    sym (kind_last t c.args.now k x true (omega (arith, c.if-x.false)) (omega (arith, c.if-x-self.false, ap (λ (z : Kept). z.end) c.self.view_is)) (omega (arith, c.if-now-x.false)) inside
    (omega (arith, c.if-as_slice-i.false, ap (λ (ns : List ℕ). get_or ns x.inv 0) sums, ap (λ (ns : List ℕ). get_or ns x.inv 0) lengths)) done)
