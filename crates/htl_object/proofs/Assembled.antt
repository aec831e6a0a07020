-- The object that is put together of lists.
use Rattle.std.proofs.Common.{◌≡◌, ℕ, List, map, sym, ◌∙◌, ap}
use Rattle.htl_object.proofs.Words.{Anchors, Lists, Fun, Compiled, object_from, object_of_lists, tables_from, tables_of_lists}

pub assembled : (l : Lists) (fs : List Fun) → fs ≡ map (λ c. Compiled c) l.functions → tables_of_lists l ≡ tables_from l fs
assembled l fs e = ap (tables_from l) (sym e)

pub whole : (l : Lists) (fs : List Fun) (a b c : List ℕ) → fs ≡ map (λ c. Compiled c) l.functions → a ≡ map (λ (x : Anchors). x.enter) l.anchors → b ≡ map (λ (x : Anchors). x.begin) l.anchors
    → c ≡ map (λ (x : Anchors). x.decide) l.anchors → object_from l fs a b c ≡ object_of_lists l
whole l fs a b c p q r s =
    let code = map (λ c. Compiled c) l.functions in
    let enter = map (λ (x : Anchors). x.enter) l.anchors in
    let begin = map (λ (x : Anchors). x.begin) l.anchors in
    ap (λ gs. object_from l gs a b c) p ∙ ap (λ x. object_from l code x b c) q ∙ ap (λ y. object_from l code enter y c) r ∙ ap (λ z. object_from l code enter begin z) s
