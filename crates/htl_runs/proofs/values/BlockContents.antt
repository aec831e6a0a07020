-- What the blocks of an instant ask for.
use Rattle.std.proofs.Common.{◌≡◌, ℕ, zero, suc, ◌+◌, ◌-◌, ◌*◌, ◌≤◌, ◌<◌, Bool, true, false, cond, ◌&&◌, eqb, List, [], ◌∷◌, ◌++◌, length, slice_get, map, Option, Some, None, refl, sym, ap, ◌∙◌, subst, arith, ◌⊎◌, inl, inr}
use Rattle.htl_runs.proofs.Words.{eqb-true, eq-eqb, and_parts, and_from, Inv, End, Stay, joined, numbered, up_to, Tables, comm_period, mode_module, is_concrete, release, stay_of, EInstr, meets, counts, places_at, next_offset, Requirement, Exactly, all_do, waits_for, release_of, releases, block_chain, wanted_writes, wanted_reads, all_writes, all_reads, EndIsMet, IsDue, IsRead, IsStanding, same_Some, cases_below}
use Rattle.htl_model.specs.declared.parts.End.TheVariants as E
use Rattle.htl_ecode.specs.declared.instr.EInstr.TheVariants as I

abbrev pub In : {A : Type 0} → A → List A → Type 0
In a [] = ⊥
In a (b ∷ bs) = (a ≡ b) ⊎ In a bs

-- the wants ask for this instruction
abbrev pub AsksFor : EInstr → List Requirement → Type 0
AsksFor j [] = ⊥
AsksFor j (w ∷ ws) = (w ≡ Exactly j) ⊎ AsksFor j ws

-- ---- lists

pub asks_left : (j : EInstr) (xs ys : List Requirement) → AsksFor j xs → AsksFor j (xs ++ ys)
asks_left j [] ys h = absurd h
asks_left j (x ∷ xs) ys (inl e) = inl e
asks_left j (x ∷ xs) ys (inr h) = inr (asks_left j xs ys h)

pub asks_right : (j : EInstr) (xs ys : List Requirement) → AsksFor j ys → AsksFor j (xs ++ ys)
asks_right j [] ys h = h
asks_right j (x ∷ xs) ys h = inr (asks_right j xs ys h)

pub asks_split : (j : EInstr) (xs ys : List Requirement) → AsksFor j (xs ++ ys) → AsksFor j xs ⊎ AsksFor j ys
asks_split j [] ys h = inr h
asks_split j (x ∷ xs) ys (inl e) = inl (inl e)
asks_split j (x ∷ xs) ys (inr h) = elim (asks_split j xs ys h) [ inl a ↦ inl (inr a) | inr b ↦ inr b ]

-- the same of instructions that are done
pub do_left : (j : EInstr) (xs ys : List EInstr) → AsksFor j (all_do xs) → AsksFor j (all_do (xs ++ ys))
do_left j [] ys h = absurd h
do_left j (x ∷ xs) ys (inl e) = inl e
do_left j (x ∷ xs) ys (inr h) = inr (do_left j xs ys h)

pub do_right : (j : EInstr) (xs ys : List EInstr) → AsksFor j (all_do ys) → AsksFor j (all_do (xs ++ ys))
do_right j [] ys h = h
do_right j (x ∷ xs) ys h = inr (do_right j xs ys h)

pub do_split : (j : EInstr) (xs ys : List EInstr) → AsksFor j (all_do (xs ++ ys)) → AsksFor j (all_do xs) ⊎ AsksFor j (all_do ys)
do_split j [] ys h = inr h
do_split j (x ∷ xs) ys (inl e) = inl (inl e)
do_split j (x ∷ xs) ys (inr h) = elim (do_split j xs ys h) [ inl a ↦ inl (inr a) | inr b ↦ inr b ]

pub asks_joined : {A : Type 0} (j : EInstr) (f : A → List EInstr) (ns : List A) → AsksFor j (all_do (joined f ns)) → (n : A) × In n ns × AsksFor j (all_do (f n))
asks_joined j f [] h = absurd h
asks_joined {A} j f (n ∷ ns) h = by_part (do_split j (f n) (joined f ns) h) (asks_joined j f ns)
  where
    by_part : AsksFor j (all_do (f n)) ⊎ AsksFor j (all_do (joined f ns)) → (AsksFor j (all_do (joined f ns)) → (m : A) × In m ns × AsksFor j (all_do (f m))) → (m : A) × In m (n ∷ ns) × AsksFor j (all_do (f m))
    by_part (inl a) ih = (n, inl refl, a)
    by_part (inr b) ih = let r = ih b in (r.0, inr r.1, r.2)

pub joined_asks : {A : Type 0} (j : EInstr) (f : A → List EInstr) (ns : List A) (n : A) → In n ns → AsksFor j (all_do (f n)) → AsksFor j (all_do (joined f ns))
joined_asks j f [] n h a = absurd h
joined_asks j f (m ∷ ns) n (inl e) a = do_left j (f m) (joined f ns) (subst (λ z. AsksFor j (all_do (f z))) e a)
joined_asks j f (m ∷ ns) n (inr h) a = do_right j (f m) (joined f ns) (joined_asks j f ns n h a)

pub asks_up_to : (j : EInstr) (f : ℕ → List Requirement) (n : ℕ) → AsksFor j (up_to f n) → (u : ℕ) × (u < n) × AsksFor j (f u)
asks_up_to j f zero h = absurd h
asks_up_to j f (suc n) h = by_part (asks_split j (up_to f n) (f n) h) (asks_up_to j f n)
  where
    by_part : AsksFor j (up_to f n) ⊎ AsksFor j (f n) → (AsksFor j (up_to f n) → (u : ℕ) × (u < n) × AsksFor j (f u)) → (u : ℕ) × (u < suc n) × AsksFor j (f u)
    by_part (inl a) ih = let r = ih a in (r.0, omega (arith, r.1), r.2)
    by_part (inr b) ih = (n, omega arith, b)

pub up_to_asks : (j : EInstr) (f : ℕ → List Requirement) (n u : ℕ) → u < n → AsksFor j (f u) → AsksFor j (up_to f n)
up_to_asks j f zero u h a = absurd (omega arith)
up_to_asks j f (suc n) u h a = by_part (cases_below u n h) (λ g. up_to_asks j f n u g a)
  where
    by_part : (u < n) ⊎ (u ≡ n) → (u < n → AsksFor j (up_to f n)) → AsksFor j (up_to f n ++ f n)
    by_part (inl g) ih = asks_left j (up_to f n) (f n) (ih g)
    by_part (inr e) ih = asks_right j (up_to f n) (f n) (subst (λ z. AsksFor j (f z)) e a)

pub numbered_in : {A : Type 0} (xs : List A) (q : ℕ) (n : ℕ × A) → In n (numbered q xs) → (d : ℕ) × (n.0 ≡ q + d) × (slice_get xs d ≡ Some n.1)
numbered_in [] q n h = absurd h
numbered_in (x ∷ xs) q n (inl e) = (0, ap (λ z. z.0) e ∙ omega arith, ap (λ z. Some z) (sym (ap (λ z. z.1) e)))
numbered_in (x ∷ xs) q n (inr h) = let r = numbered_in xs (suc q) n h in (suc r.0, omega (arith, r.1), r.2)

pub in_numbered : {A : Type 0} (xs : List A) (q d : ℕ) (x : A) → slice_get xs d ≡ Some x → In (q + d, x) (numbered q xs)
in_numbered [] q d x e = absurd (let z : ⊥ = cc in z)
in_numbered {A} (y ∷ xs) q zero x e = grind (arith, same_Some)
in_numbered (y ∷ xs) q (suc d) x e = grind (arith, in_numbered xs (suc q) d x e)

-- ---- the ends of an offset

offset_in : (t : Tables) (o q k : ℕ) (ends : List End) → In k (places_at t o q ends) → (d : ℕ) × (k ≡ q + d) × (e : End) × (slice_get ends d ≡ Some e) × (meets t o e ≡ true)
offset_in t o q k [] h = absurd h
offset_in t o q k (e ∷ ends) h = by_test (meets t o e) refl h (offset_in t o (suc q) k ends)
  where
    later : ((d : ℕ) × (k ≡ suc q + d) × (f : End) × (slice_get ends d ≡ Some f) × (meets t o f ≡ true)) → (d : ℕ) × (k ≡ q + d) × (f : End) × (slice_get (e ∷ ends) d ≡ Some f) × (meets t o f ≡ true)
    later r = (suc r.0, omega (arith, r.1), r.2, r.3, r.4)

    by_test : (b : Bool) → meets t o e ≡ b → In k (cond b (q ∷ places_at t o (suc q) ends) (places_at t o (suc q) ends))
        → (In k (places_at t o (suc q) ends) → (d : ℕ) × (k ≡ suc q + d) × (f : End) × (slice_get ends d ≡ Some f) × (meets t o f ≡ true))
        → (d : ℕ) × (k ≡ q + d) × (f : End) × (slice_get (e ∷ ends) d ≡ Some f) × (meets t o f ≡ true)
    by_test true m (inl is) ih = (0, omega (arith, is), e, refl, m)
    by_test true m (inr g) ih = later (ih g)
    by_test false m g ih = later (ih g)

in_offset : (t : Tables) (o q d : ℕ) (ends : List End) (e : End) → slice_get ends d ≡ Some e → meets t o e ≡ true → In (q + d) (places_at t o q ends)
in_offset t o q d [] e at m = absurd (let z : ⊥ = cc in z)
in_offset t o q zero (f ∷ ends) e at m = grind (arith, same_Some)
in_offset t o q (suc d) (f ∷ ends) e at m = grind (arith, in_offset t o (suc q) d ends e at m)

meets_is : (t : Tables) (o : ℕ) (e : End) → meets t o e ≡ true → (c n : ℕ) × (e ≡ E.Comm c n) × (n * comm_period t c ≡ o)
meets_is t o (E.Comm c n) h = (c, n, refl, eqb-true (n * comm_period t c) o h)
meets_is t o (E.Port p) h = absurd (let z : ⊥ = cc in z)

-- ---- the calls of a mode at an offset

asks_map : (j : EInstr) (g : ℕ → EInstr) (ks : List ℕ) → AsksFor j (all_do (map g ks)) → (k : ℕ) × In k ks × (Exactly (g k) ≡ Exactly j)
asks_map j g [] h = absurd h
asks_map j g (k ∷ ks) (inl e) = (k, inl refl, e)
asks_map j g (k ∷ ks) (inr h) = let r = asks_map j g ks h in (r.0, inr r.1, r.2)

map_asks : (g : ℕ → EInstr) (ks : List ℕ) (k : ℕ) → In k ks → AsksFor (g k) (all_do (map g ks))
map_asks g [] k h = absurd h
map_asks g (l ∷ ks) k (inl e) = inl (ap (λ z. Exactly (g z)) (sym e))
map_asks g (l ∷ ks) k (inr h) = inr (map_asks g ks k h)

-- the calls that an instruction makes for the ends of one kind
abbrev pub calls_of : (ℕ → ℕ → EInstr) → (Inv → List End) → Tables → ℕ → ℕ → ℕ × Inv → List EInstr
calls_of make ends t m o n = cond (counts t m n.1) (map (make n.0) (places_at t o 0 (ends n.1))) []

-- invocation i of mode m meets a communicator at the offset with its end at place k
record IsCalled (ends : Inv → List End) (t : Tables) (m o i k : ℕ) : Type 0 where
  inv : Inv
  comm : ℕ
  instance : ℕ
  known : slice_get t.invs i ≡ Some inv
  mode : inv.mode ≡ m
  concrete : is_concrete t inv ≡ true
  end : slice_get (ends inv) k ≡ Some (E.Comm comm instance)
  at : instance * comm_period t comm ≡ o

module _ (make : ℕ → ℕ → EInstr) (ends : Inv → List End) (apart : (a b i k : ℕ) → Exactly (make a b) ≡ Exactly (make i k) → (a ≡ i) × (b ≡ k)) (t : Tables) where
  item_called : (m o i k : ℕ) (n : ℕ × Inv) → slice_get t.invs n.0 ≡ Some n.1 → AsksFor (make i k) (all_do (calls_of make ends t m o n)) → IsCalled ends t m o i k
  item_called m o i k n at h = by_test (counts t m n.1) refl h
    where
      by_test : (b : Bool) → counts t m n.1 ≡ b → AsksFor (make i k) (all_do (cond b (map (make n.0) (places_at t o 0 (ends n.1))) [])) → IsCalled ends t m o i k
      by_test false is h = absurd h
      by_test true is h =
          let r = asks_map (make i k) (make n.0) (places_at t o 0 (ends n.1)) h in
          let e = apart n.0 r.0 i k r.2 in
          let d = offset_in t o 0 r.0 (ends n.1) r.1 in
          let c = meets_is t o d.2 d.4 in
          let b = and_parts (eqb n.1.mode m) (is_concrete t n.1) is in
          record {
            inv = n.1;
            comm = c.0;
            instance = c.1;
            known = ap (slice_get t.invs) (sym e.0) ∙ at;
            mode = eqb-true n.1.mode m b.0;
            concrete = b.1;
            end = ap (slice_get (ends n.1)) (let z : k ≡ d.0 = omega (arith, e.1, d.1) in z) ∙ d.3 ∙ ap (λ z. Some z) c.2;
            at = c.3;
          }

  called : (m o i k : ℕ) → AsksFor (make i k) (all_do (joined (calls_of make ends t m o) (numbered 0 t.invs))) → IsCalled ends t m o i k
  called m o i k h = grind (arith, asks_joined, numbered_in, item_called)

  calls : (m o i k : ℕ) → IsCalled ends t m o i k → AsksFor (make i k) (all_do (joined (calls_of make ends t m o) (numbered 0 t.invs)))
  calls m o i k c =
      let yes : counts t m c.inv ≡ true = and_from (eqb c.inv.mode m) (is_concrete t c.inv) (eq-eqb c.inv.mode m c.mode) c.concrete in
      let meet : meets t o (E.Comm c.comm c.instance) ≡ true = eq-eqb (c.instance * comm_period t c.comm) o c.at in
      let place : In k (places_at t o 0 (ends c.inv)) =
      subst (λ z. In z (places_at t o 0 (ends c.inv))) (let z : 0 + k ≡ k = omega arith in z) (in_offset t o 0 k (ends c.inv) (E.Comm c.comm c.instance) c.end meet) in
      joined_asks (make i k) (calls_of make ends t m o) (numbered 0 t.invs) (i, c.inv)
      (subst (λ z. In (z, c.inv) (numbered 0 t.invs)) (let z : 0 + i ≡ i = omega arith in z) (in_numbered t.invs 0 i c.inv c.known))
      (subst (λ b. AsksFor (make i k) (all_do (cond b (map (make i) (places_at t o 0 (ends c.inv))) []))) (sym yes) (map_asks (make i) (places_at t o 0 (ends c.inv)) k place))

-- ---- what else the chains ask for

pub not_waits : (j : EInstr) (o p : ℕ) (n : Option ℕ) → (Exactly I.Return ≡ Exactly j → ⊥) → AsksFor j (waits_for o p n ++ Exactly I.Return ∷ []) → ⊥
not_waits j o p None f (inl e) = f e
not_waits j o p None f (inr h) = h
not_waits j o p (Some x) f (inl e) = cc
not_waits j o p (Some x) f (inr (inl e)) = f e
not_waits j o p (Some x) f (inr (inr h)) = h

not_released : (j : EInstr) (t : Tables) (m o : ℕ) (ns : List (ℕ × Inv)) → ((i : ℕ) → Exactly (I.Release i) ≡ Exactly j → ⊥) → AsksFor j (all_do (joined (release_of t m o) ns)) → ⊥
not_released j t m o ns f h = grind (arith, asks_joined)

pub not_called : (j : EInstr) (make : ℕ → ℕ → EInstr) (ends : Inv → List End) (t : Tables) (m o : ℕ) (ns : List (ℕ × Inv)) → ((a b : ℕ) → Exactly (make a b) ≡ Exactly j → ⊥) → AsksFor j (all_do (joined (calls_of make ends t m o) ns)) → ⊥
not_called j make ends t m o ns f h = grind (arith, asks_joined, asks_map)

write_apart : (a b i k : ℕ) → Exactly (I.CallWrite a b) ≡ Exactly (I.CallWrite i k) → (a ≡ i) × (b ≡ k)
write_apart a b i k e = (cc, cc)

read_apart : (a b i k : ℕ) → Exactly (I.CallRead a b) ≡ Exactly (I.CallRead i k) → (a ≡ i) × (b ≡ k)
read_apart a b i k e = (cc, cc)

abbrev pub written : Tables → ℕ → ℕ → List EInstr
written t m o = joined (calls_of I.CallWrite (λ x. x.writes) t m o) (numbered 0 t.invs)

abbrev pub copied : Tables → ℕ → ℕ → List EInstr
copied t m o = joined (calls_of I.CallRead (λ x. x.reads) t m o) (numbered 0 t.invs)

-- what a chain asks for, but for `Return`
pub among_writes : (j : EInstr) (t : Tables) (m o : ℕ) → (Exactly I.Return ≡ Exactly j → ⊥) → AsksFor j (block_chain t m 1 o) → AsksFor j (all_do (written t m o))
among_writes j t m o f h =
    elim (asks_split j (all_do (written t m o ++ [])) (waits_for o 1 (next_offset t m 1 (suc o)) ++ Exactly I.Return ∷ []) h) [
      | inl a ↦ elim (do_split j (written t m o) [] a) [ inl b ↦ b | inr none ↦ absurd none ]
      | inr b ↦ absurd (not_waits j o 1 (next_offset t m 1 (suc o)) f b)
    ]

pub among_reads : (j : EInstr) (t : Tables) (m o : ℕ) → (Exactly I.Return ≡ Exactly j → ⊥) → AsksFor j (block_chain t m 3 o) → AsksFor j (all_do (copied t m o)) ⊎ AsksFor j (all_do (releases t m o))
among_reads j t m o f h =
    elim (asks_split j (all_do (copied t m o ++ releases t m o)) (waits_for o 3 (next_offset t m 3 (suc o)) ++ Exactly I.Return ∷ []) h) [
      | inl a ↦ do_split j (copied t m o) (releases t m o) a
      | inr b ↦ absurd (not_waits j o 3 (next_offset t m 3 (suc o)) f b)
    ]

write_called : (t : Tables) (m o i k : ℕ) → AsksFor (I.CallWrite i k) (block_chain t m 1 o) → IsCalled (λ x. x.writes) t m o i k
write_called t m o i k h = called I.CallWrite (λ x. x.writes) write_apart t m o i k (among_writes (I.CallWrite i k) t m o (λ e. let z : ⊥ = cc in z) h)

called_write : (t : Tables) (m o i k : ℕ) → IsCalled (λ x. x.writes) t m o i k → AsksFor (I.CallWrite i k) (block_chain t m 1 o)
called_write t m o i k c =
    asks_left (I.CallWrite i k) (all_do (written t m o ++ [])) (waits_for o 1 (next_offset t m 1 (suc o)) ++ Exactly I.Return ∷ [])
    (do_left (I.CallWrite i k) (written t m o) [] (calls I.CallWrite (λ x. x.writes) write_apart t m o i k c))

read_called : (t : Tables) (m o i k : ℕ) → AsksFor (I.CallRead i k) (block_chain t m 3 o) → IsCalled (λ x. x.reads) t m o i k
read_called t m o i k h = grind (arith, among_reads, called, read_apart, not_released)

called_read : (t : Tables) (m o i k : ℕ) → IsCalled (λ x. x.reads) t m o i k → AsksFor (I.CallRead i k) (block_chain t m 3 o)
called_read t m o i k c =
    asks_left (I.CallRead i k) (all_do (copied t m o ++ releases t m o)) (waits_for o 3 (next_offset t m 3 (suc o)) ++ Exactly I.Return ∷ [])
    (do_left (I.CallRead i k) (copied t m o) (releases t m o) (calls I.CallRead (λ x. x.reads) read_apart t m o i k c))

-- a chain of one kind asks for no call of the other
no_write_in : (t : Tables) (m o i k : ℕ) → AsksFor (I.CallWrite i k) (block_chain t m 3 o) → ⊥
no_write_in t m o i k h = grind (arith, among_reads, not_called, not_released)

no_read_in : (t : Tables) (m o i k : ℕ) → AsksFor (I.CallRead i k) (block_chain t m 1 o) → ⊥
no_read_in t m o i k h = grind (arith, not_called, among_writes)

-- ---- the blocks of all modules

module _ (t : Tables) (stays : List (Option Stay)) (n now : ℕ) (standing : IsStanding t stays n) (past : n ≤ now) where
  met : (ends : Inv → List End) (u i k : ℕ) (y : Stay) → stay_of stays u ≡ Some y → IsCalled ends t y.mode (now - y.start) i k → (c : ℕ) × EndIsMet ends t stays now i k c
  met ends u i k y at c = (
    c.comm,
    record {
      inv = c.inv;
      start = y.start;
      instance = c.instance;
      stands =
          record {
            known = c.known;
            concrete = c.concrete;
            in_round =
                ap (λ m. stay_of stays (mode_module t m)) c.mode ∙ ap (stay_of stays) (standing.own u y at) ∙ at
                ∙ ap (λ m. Some (record { mode = m; start = y.start })) (sym c.mode);
          };
      end = c.end;
      at = omega (arith, c.at, standing.past u y at);
    },
  )

  uncalled : (ends : Inv → List End) (i k c : ℕ) (d : EndIsMet ends t stays now i k c) → IsCalled ends t d.inv.mode (now - d.start) i k
  uncalled ends i k c d =
      record {
        inv = d.inv;
        comm = c;
        instance = d.instance;
        known = d.stands.known;
        mode = refl;
        concrete = d.stands.concrete;
        end = d.end;
        at = omega (arith, d.at);
      }

  pub due_of : (i k : ℕ) → AsksFor (I.CallWrite i k) (all_writes t now stays) → (c : ℕ) × IsDue t stays now i k c
  due_of i k h = let r = asks_up_to (I.CallWrite i k) (λ u. wanted_writes t now (stay_of stays u)) (length t.modules) h in by_stay r.0 (stay_of stays r.0) refl r.2
    where
      by_stay : (u : ℕ) (o : Option Stay) → stay_of stays u ≡ o → AsksFor (I.CallWrite i k) (wanted_writes t now o) → (c : ℕ) × IsDue t stays now i k c
      by_stay u None is a = absurd a
      by_stay u (Some y) is a = met (λ x. x.writes) u i k y is (write_called t y.mode (now - y.start) i k a)

  pub read_of : (i k : ℕ) → AsksFor (I.CallRead i k) (all_reads t now stays) → (c : ℕ) × IsRead t stays now i k c
  read_of i k h = let r = asks_up_to (I.CallRead i k) (λ u. wanted_reads t now (stay_of stays u)) (length t.modules) h in by_stay r.0 (stay_of stays r.0) refl r.2
    where
      by_stay : (u : ℕ) (o : Option Stay) → stay_of stays u ≡ o → AsksFor (I.CallRead i k) (wanted_reads t now o) → (c : ℕ) × IsRead t stays now i k c
      by_stay u None is a = absurd a
      by_stay u (Some y) is a = met (λ x. x.reads) u i k y is (read_called t y.mode (now - y.start) i k a)

  pub due_asks : (i k c : ℕ) → IsDue t stays now i k c → AsksFor (I.CallWrite i k) (all_writes t now stays)
  due_asks i k c d =
      up_to_asks (I.CallWrite i k) (λ u. wanted_writes t now (stay_of stays u)) (length t.modules) (mode_module t d.inv.mode)
      (standing.known (mode_module t d.inv.mode) (record { mode = d.inv.mode; start = d.start }) d.stands.in_round)
      (subst (λ o. AsksFor (I.CallWrite i k) (wanted_writes t now o)) (sym d.stands.in_round) (called_write t d.inv.mode (now - d.start) i k (uncalled (λ x. x.writes) i k c d)))

  pub read_asks : (i k c : ℕ) → IsRead t stays now i k c → AsksFor (I.CallRead i k) (all_reads t now stays)
  read_asks i k c d =
      up_to_asks (I.CallRead i k) (λ u. wanted_reads t now (stay_of stays u)) (length t.modules) (mode_module t d.inv.mode)
      (standing.known (mode_module t d.inv.mode) (record { mode = d.inv.mode; start = d.start }) d.stands.in_round)
      (subst (λ o. AsksFor (I.CallRead i k) (wanted_reads t now o)) (sym d.stands.in_round) (called_read t d.inv.mode (now - d.start) i k (uncalled (λ x. x.reads) i k c d)))

pub no_write_read : (t : Tables) (now : ℕ) (stays : List (Option Stay)) (i k : ℕ) → AsksFor (I.CallWrite i k) (all_reads t now stays) → ⊥
no_write_read t now stays i k h = let r = asks_up_to (I.CallWrite i k) (λ u. wanted_reads t now (stay_of stays u)) (length t.modules) h in by_stay (stay_of stays r.0) r.2
  where
    by_stay : (o : Option Stay) → AsksFor (I.CallWrite i k) (wanted_reads t now o) → ⊥
    by_stay None a = a
    by_stay (Some y) a = no_write_in t y.mode (now - y.start) i k a

pub no_read_write : (t : Tables) (now : ℕ) (stays : List (Option Stay)) (i k : ℕ) → AsksFor (I.CallRead i k) (all_writes t now stays) → ⊥
no_read_write t now stays i k h = let r = asks_up_to (I.CallRead i k) (λ u. wanted_writes t now (stay_of stays u)) (length t.modules) h in by_stay (stay_of stays r.0) r.2
  where
    by_stay : (o : Option Stay) → AsksFor (I.CallRead i k) (wanted_writes t now o) → ⊥
    by_stay None a = a
    by_stay (Some y) a = no_read_in t y.mode (now - y.start) i k a
