-- How many nodes are below a node behind each start, start by start.
use Rattle.std.proofs.Common.{◌≡◌, ◌≢◌, ℕ, suc, ◌+◌, ◌-◌, ◌/◌, ◌≤◌, ◌<◌, List, [], ◌∷◌, ◌++◌, length, drop, get_or, set, take, add-one, refl, sym, ap, ◌∙◌, arith, inl, inr}
use Rattle.htl_runs.proofs.Words.{get_or-append_seam, take-append_seam, get_or-set_at, take-take, drop-map, get_or-set_other, get_or-take, length-set, length-map, ways, nodes_of, frame_of, starts, rounds, rounds_at, choices, radices, AreInRange, Tables, choices_some, choices_starts, rounds_have, node_step, nodes_below, cases_eq}

-- the numbers of the first j starts are written
pub record AreBelow (cs below : List ℕ) (j rest : ℕ) : Type 0 where
  pub some : 0 < ways (drop j cs)
  pub behind : rest ≡ nodes_of (drop j cs)
  pub few : rest ≤ 32768
  pub room : length below ≡ 32
  pub all_below : (i : ℕ) → i < j → get_or below i 0 ≡ nodes_of (drop (suc i) cs)
  pub small : (i : ℕ) → i < j → get_or below i 0 ≤ 32768

pub one_below : (cs below : List ℕ) (j rest : ℕ) → j < length cs → length cs ≤ 32 → AreBelow cs below j rest → AreBelow cs (set below j (rest / get_or cs j 0 - 1)) (j + 1) (rest / get_or cs j 0 - 1)
one_below cs below j rest less short h =
    let n = rest / get_or cs j 0 - 1 in
    let s = node_step cs j 0 (ways (drop j cs)) rest less refl h.some h.behind in
    let here : nodes_of (drop (suc j) cs) ≡ nodes_of (drop (j + 1) cs) = rw add-one refl in
    record {
      some = omega (arith, s.0, s.1);
      behind = s.2;
      few = omega (arith, s.3, h.few);
      room = length-set below j n ∙ h.room;
      all_below = λ i l. elim (cases_eq i j) [
        | inl e ↦ get_or-set_at below j i n 0 e (omega (arith, less, short, h.room)) ∙ s.2 ∙ sym here ∙ ap (λ k. nodes_of (drop (suc k) cs)) (sym e)
        | inr d ↦ get_or-set_other below j i n 0 d ∙ h.all_below i (before i j l d)
      ];
      small = λ i l. elim (cases_eq i j) [
        | inl e ↦ omega (arith, get_or-set_at below j i n 0 e (omega (arith, less, short, h.room)), s.3, h.few)
        | inr d ↦ omega (arith, get_or-set_other below j i n 0 d, h.small i (before i j l d))
      ];
    }
  where
    before : (i j : ℕ) → i < j + 1 → i ≢ j → i < j
    before i j l d = grind arith

pub ways_there : (t : Tables) → AreInRange t → (cs : List ℕ) → cs ≡ radices t → 0 < ways cs
ways_there t range cs e = omega (arith, ap ways e, choices_starts t (starts t), choices_some t (rounds t) (rounds_have t range))

pub below_starts : (t : Tables) (cs : List ℕ) (j : ℕ) → cs ≡ radices t → nodes_of (drop (suc j) cs) ≡ nodes_below t (drop (suc j) (starts t))
below_starts t cs j e = ap (λ xs. nodes_of (drop (suc j) xs)) e ∙ ap nodes_of (drop-map (λ a. choices t (rounds_at t a)) (suc j) (starts t))

pub starts_many : (t : Tables) (cs : List ℕ) → cs ≡ radices t → length cs ≡ length (starts t)
starts_many t cs e = ap length e ∙ length-map (starts t) (λ a. choices t (rounds_at t a))

-- behind the starts stands the frame's end
pub frame_end : (t : Tables) (out : List ℕ) (n : ℕ) → n ≡ length (starts t) → take (n + 1) out ≡ starts t ++ frame_of t ∷ [] → get_or out n 0 ≡ frame_of t
frame_end t out n e f = sym (get_or-take (n + 1) out n 0 (omega arith)) ∙ ap (λ xs. get_or xs n 0) f ∙ ap (λ k. get_or (starts t ++ frame_of t ∷ []) k 0) e ∙ get_or-append_seam (starts t) (frame_of t) [] 0

pub starts_front : (t : Tables) (out : List ℕ) (n : ℕ) → n ≡ length (starts t) → take (n + 1) out ≡ starts t ++ frame_of t ∷ [] → take n out ≡ starts t
starts_front t out n e f =
    sym (take-take n (n + 1) out (omega arith)) ∙ ap (take n) f ∙ ap (λ k. take k (starts t ++ frame_of t ∷ [])) e ∙ take-append_seam (starts t) (frame_of t ∷ [])
