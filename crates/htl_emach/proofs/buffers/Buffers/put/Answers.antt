-- A write to one row, read as lists.
use Rattle.std.proofs.Common.{rules, arith, ◌≡◌, ◌<◌, length, get_or, map, set, ℕ, List, [], ◌∷◌, ℤ, w64, refl, sym, ap, ap₂, ◌∙◌, subst, SFits, Vec, Global, suc, zero}
use Rattle.htl_emach.proofs.Words.{with_item, to_z-of_z, map-set, put_in}
use Rattle.htl_emach.proofs.buffers.Buffers.put.Goals as goal

items_of : Vec ℤ Global → List ℤ
items_of v = v.items

row_at : (rows : List (Vec ℤ Global)) (i : ℕ) (r : Vec ℤ Global) → i < length (map (λ v. v.items) rows) → get_or (map (λ v. v.items) rows) i [] ≡ (get_or rows i r).items
row_at [] i r h = absurd (omega arith)
row_at (x ∷ rows) zero r h = refl
row_at (x ∷ rows) (suc i) r h = row_at rows i r (omega arith)

put_row : (rows : List (Vec ℤ Global)) (bs : List (List ℤ)) (i k : ℕ) (x y : ℤ) (r : Vec ℤ Global) → map (λ v. v.items) rows ≡ bs → r ≡ get_or rows i r → i < length bs → y ≡ x →
    map (λ v. v.items) (set rows i (with_item r k y)) ≡ put_in bs i k x
put_row rows bs i k x y r view at h same =
    let row : get_or bs i [] ≡ r.items =
    sym (ap (λ z. get_or z i []) view) ∙ row_at rows i r (subst (λ z. i < length z) (sym view) h) ∙ sym (ap (λ (v : Vec ℤ Global). v.items) at) in
    map-set (λ (v : Vec ℤ Global). v.items) rows i (with_item r k y)
    ∙ ap₂ (λ a b. set a i (set b k y)) view (sym row) ∙ ap (λ z. set bs i (set (get_or bs i []) k z)) same

pub returns : goal.returns
returns c =
    let f : SFits w64 c.args.x = search rules in
    put_row c.self.inside.rows.items c.args.self.now c.args.row c.args.place c.args.x _ c.index_mut-r.result.now c.self.view_is c.index_mut-r.ensures.value c.requires.0 (to_z-of_z w64 c.args.x f)
