-- Starts one after another, and the numbers of nodes place by place.
use Rattle.std.proofs.Common.{◌≡◌, ℕ, zero, suc, ◌+◌, ◌-◌, ◌*◌, ◌/◌, ◌%◌, ◌≤◌, ◌<◌, true, false, cond, ◌||◌, eqb, min, List, [], ◌∷◌, ◌++◌, length, drop, drop-cons, map, get_or, add-one, refl, sym, ap, ◌∙◌, subst, arith}
use Rattle.htl_model.proofs.Words.{or_right, append-nil, length-append, mul-le-mul_left, mul-le-mul_right, mul-mod_left, le-mul_of_pos_right, mul_assoc, begins, starts_below, gcd_in, ways, nodes_of, node_of, product_parts}

-- ---- instants at which no round begins

pub multiple_here : (p n : ℕ) → eqb ((n + 1) * p % p) 0 ≡ true
multiple_here p n = ap (λ m. eqb m 0) (mul-mod_left (n + 1) p)

-- ---- a test that fails for all

pub starts_gap : (ps : List ℕ) (a k : ℕ) → ((x : ℕ) → a ≤ x → x < a + k → begins ps x ≡ false) → starts_below ps (a + k) ≡ starts_below ps a
starts_gap ps a zero h = let e : a + 0 ≡ a = omega arith in ap (starts_below ps) e
starts_gap ps a (suc k) h =
    let e : a + suc k ≡ suc (a + k) = omega arith in
    ap (starts_below ps) e ∙ ap (λ b. starts_below ps (a + k) ++ cond b ((a + k) ∷ []) []) (h (a + k) (omega arith) (omega arith)) ∙ append-nil (starts_below ps (a + k))
    ∙ starts_gap ps a k (λ x l b. h x l (omega (arith, b)))

-- ---- the greatest common divisor

pub gcd_more : (n m a b : ℕ) → b < n → b < m → gcd_in n a b ≡ gcd_in m a b
gcd_more zero m a b l k = absurd (omega (arith, l))
gcd_more (suc n) zero a b l k = absurd (omega (arith, k))
gcd_more (suc n) (suc m) a zero l k = refl
gcd_more (suc n) (suc m) a (suc b) l k = let less : a % suc b < suc b = omega arith in gcd_more n m (suc b) (a % suc b) (omega (arith, less, l)) (omega (arith, less, k))

-- ---- a start more

pub begins_some : (f : ℕ → ℕ) (us : List ℕ) (k x : ℕ) → k < length us → eqb (x % f (get_or us k 0)) 0 ≡ true → begins (map f us) x ≡ true
begins_some f [] k x l e = absurd (omega (arith, l))
begins_some f (u ∷ us) zero x l e = ap (λ b. b || begins (map f us) x) e
begins_some f (u ∷ us) (suc k) x l e = or_right (eqb (x % f u) 0) (begins (map f us) x) (begins_some f us k x (omega (arith, l)) e)

pub begins_zero : (f : ℕ → ℕ) (us : List ℕ) → 0 < length us → begins (map f us) 0 ≡ true
begins_zero f us l = begins_some f us 0 0 l (let e : 0 % f (get_or us 0 0) ≡ 0 = omega arith in ap (λ n. eqb n 0) e)

pub starts_more : (ps : List ℕ) (a : ℕ) → begins ps a ≡ true → starts_below ps (suc a) ≡ starts_below ps a ++ a ∷ []
starts_more ps a e = ap (λ b. starts_below ps a ++ cond b (a ∷ []) []) e

-- the starts up to the next one
pub starts_next : (ps : List ℕ) (a b : ℕ) → begins ps a ≡ true → a < b → ((x : ℕ) → a < x → x < b → begins ps x ≡ false) → starts_below ps b ≡ starts_below ps a ++ a ∷ []
starts_next ps a b e l none =
    let same : suc a + (b - suc a) ≡ b = omega (arith, l) in
    sym (ap (starts_below ps) same) ∙ starts_gap ps (suc a) (b - suc a) (λ x g h. none x (omega (arith, g)) (omega (arith, h, same))) ∙ starts_more ps a e

pub starts_grow : (ps : List ℕ) (a k : ℕ) → length (starts_below ps a) ≤ length (starts_below ps (a + k))
starts_grow ps a zero = let e : a + 0 ≡ a = omega arith in omega (arith, ap (λ n. length (starts_below ps n)) e)
starts_grow ps a (suc k) =
    let e : a + suc k ≡ suc (a + k) = omega arith in
    omega (arith, ap (λ n. length (starts_below ps n)) e, length-append (starts_below ps (a + k)) (cond (begins ps (a + k)) ((a + k) ∷ []) []), starts_grow ps a k)

pub room_for : (ps : List ℕ) (a h : ℕ) → begins ps a ≡ true → a < h → length (starts_below ps a) < length (starts_below ps h)
room_for ps a h e l =
    let same : suc a + (h - suc a) ≡ h = omega (arith, l) in
    omega (
      arith,
      ap (λ n. length (starts_below ps n)) same,
      starts_grow ps (suc a) (h - suc a),
      ap (λ (xs : List ℕ). length xs) (starts_more ps a e),
      length-append (starts_below ps a) (a ∷ []),
    )

-- ---- numbers of nodes

pub ways_next : (cs : List ℕ) (i : ℕ) → i < length cs → ways (drop i cs) ≡ get_or cs i 0 * ways (drop (i + 1) cs)
ways_next cs i l = rw add-one (ap ways (drop-cons cs i 0 l))

pub nodes_next : (cs : List ℕ) (i : ℕ) → i < length cs → nodes_of (drop i cs) ≡ get_or cs i 0 * suc (nodes_of (drop (i + 1) cs))
nodes_next cs i l = rw add-one (ap nodes_of (drop-cons cs i 0 l))

pub nodes_few : (cs : List ℕ) → 0 < ways cs → nodes_of cs ≤ length cs * ways cs
nodes_few [] h = omega arith
nodes_few (c ∷ cs) h =
    let some = product_parts c (ways cs) h in
    let rest = nodes_few cs some.1 in
    by c (ways cs) (nodes_of cs) (length cs) some.1 rest
  where
    by : (c w n k : ℕ) → 0 < w → n ≤ k * w → c * suc n ≤ suc k * (c * w)
    by c w n k a b = grind (arith, mul-le-mul_left)

pub quotient : (c r b : ℕ) → b ≡ c * r → 0 < c → b / c ≡ r
quotient zero r b e l = absurd (omega (arith, l))
quotient (suc c) r b e l = ap (λ n. n / suc c) e ∙ whole c r
  where
    whole : (c r : ℕ) → suc c * r / suc c ≡ r
    whole c r = grind arith

-- one start further along a path's nodes
pub node_next : (cs : List ℕ) (i path k : ℕ) → i < length cs → node_of (drop i cs) path (suc k) ≡ path / ways (drop (i + 1) cs) % get_or cs i 0 * suc (nodes_of (drop (i + 1) cs)) + suc (node_of (drop (i + 1) cs) path k)
node_next cs i path k l = rw add-one (ap (λ ds. node_of ds path (suc k)) (drop-cons cs i 0 l))

pub node_here : (cs : List ℕ) (i path : ℕ) → i < length cs → node_of (drop i cs) path 0 ≡ path / ways (drop (i + 1) cs) % get_or cs i 0 * suc (nodes_of (drop (i + 1) cs))
node_here cs i path l = rw add-one (ap (λ ds. node_of ds path 0) (drop-cons cs i 0 l))

pub gcd_step : (x y : ℕ) → 0 < y → gcd_in (suc (x % y)) y (x % y) ≡ gcd_in (suc y) x y
gcd_step x zero l = absurd (omega (arith, l))
gcd_step x (suc b) l = let less : x % suc b < suc b = omega arith in gcd_more (suc (x % suc b)) (suc b) (suc b) (x % suc b) (omega arith) less

pub least_here : (r m b : ℕ) → r ≡ min m b → r < b → r ≡ m
least_here r m b e l = omega (arith, e, l)

-- one start more of a path's node, in the terms of the code
pub node_step : (cs : List ℕ) (i path b m : ℕ) → i < length cs → b ≡ ways (drop i cs) → 0 < b → m ≡ nodes_of (drop i cs)
    → (b / get_or cs i 0 ≡ ways (drop (i + 1) cs)) × (0 < b / get_or cs i 0) × (m / get_or cs i 0 - 1 ≡ nodes_of (drop (i + 1) cs)) × (m / get_or cs i 0 - 1 ≤ m)
    × (path / (b / get_or cs i 0) % get_or cs i 0 * (m / get_or cs i 0 - 1 + 1) ≤ m)
    × ((r : ℕ) → node_of (drop i cs) path (suc r) ≡ path / (b / get_or cs i 0) % get_or cs i 0 * (m / get_or cs i 0 - 1 + 1) + 1 + node_of (drop (i + 1) cs) path r)
    × (node_of (drop i cs) path 0 ≡ path / (b / get_or cs i 0) % get_or cs i 0 * (m / get_or cs i 0 - 1 + 1))
node_step cs i path b m l e some n =
    let c = get_or cs i 0 in
    let w = ways (drop (i + 1) cs) in
    let k = nodes_of (drop (i + 1) cs) in
    let both : b ≡ c * w = e ∙ ways_next cs i l in
    let parts = product_parts c w (subst (λ x. 0 < x) both some) in
    let q : b / c ≡ w = quotient c w b both parts.0 in
    let whole : m ≡ c * suc k = n ∙ nodes_next cs i l in
    let next : m / c ≡ suc k = quotient c (suc k) m whole parts.0 in
    let less : m / c - 1 ≡ k = omega (arith, next) in
    let more : m / c - 1 + 1 ≡ suc k = omega (arith, next) in
    let digit : path / (b / c) % c * (m / c - 1 + 1) ≡ path / w % c * suc k = ap (λ x. path / x % c * (m / c - 1 + 1)) q ∙ ap (λ x. path / w % c * x) more in
    let below : path / w % c < c = omega (arith, parts.0) in (
      q,
      omega (arith, q, parts.1),
      less,
      omega (arith, less, whole, grows c k parts.0),
      omega (arith, digit, whole, at_most (path / w % c) c (suc k) below),
      λ r. node_next cs i path r l ∙ omega (arith, digit),
      node_here cs i path l ∙ sym digit,
    )
  where
    grows : (c k : ℕ) → 0 < c → k ≤ c * suc k
    grows zero k a = absurd (omega (arith, a))
    grows (suc c) k a = grind arith

    at_most : (d c k : ℕ) → d < c → d * k ≤ c * k
    at_most d c k a = mul-le-mul_right k (omega (arith, a))

pub nodes_small : (cs : List ℕ) (paths nodes : ℕ) → paths ≡ ways cs → nodes ≡ nodes_of cs → 0 < paths → paths ≤ 1024 → length cs ≤ 32 → nodes ≤ 32768
nodes_small cs paths nodes a b some few short = grind (arith, nodes_few, mul-le-mul_right, mul-le-mul_left)

-- one start more of the count of nodes
pub count_step : (cs : List ℕ) (i n f : ℕ) → i < length cs → 0 < ways (drop i cs) → n + f * nodes_of (drop i cs) ≡ nodes_of cs → f * ways (drop i cs) ≡ ways cs
    → (f * get_or cs i 0 ≤ ways cs) × (n + f * get_or cs i 0 + f * get_or cs i 0 * nodes_of (drop (i + 1) cs) ≡ nodes_of cs) × (f * get_or cs i 0 * ways (drop (i + 1) cs) ≡ ways cs) × (0 < ways (drop (i + 1) cs))
count_step cs i n f l some nodes product =
    let c = get_or cs i 0 in
    let w = ways (drop (i + 1) cs) in
    let k = nodes_of (drop (i + 1) cs) in
    let cut : ways (drop i cs) ≡ c * w = ways_next cs i l in
    let parts = product_parts c w (subst (λ x. 0 < x) cut some) in
    let whole : f * c * w ≡ ways cs = mul_assoc f c w ∙ ap (λ x. f * x) (sym cut) ∙ product in (
      omega (arith, whole, le-mul_of_pos_right (f * c) parts.1),
      omega (arith, nodes, ap (λ x. f * x) (nodes_next cs i l) ∙ spread f c k),
      whole,
      parts.1,
    )
  where
    spread : (f c k : ℕ) → f * (c * suc k) ≡ f * c + f * c * k
    spread f c k = grind arith
