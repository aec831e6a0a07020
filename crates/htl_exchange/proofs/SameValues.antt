-- The communicators of the part have the same values.
use Rattle.std.proofs.Common.{◌≡◌, inl, inr, ℕ, ◌+◌, ◌*◌, ◌≤◌, true, eqb, eqb-true, eq-eqb, List, length, get_or, slice_get, Option, Some, None, ℤ, pos, option_map, refl, sym, ap, ◌∙◌, arith}
use Rattle.htl_exchange.proofs.Words.{Comm, Inv, Stay, Write, out, stay_of, write_from, written, written_by, next_value, next_values, first_value, first_values}
use Rattle.htl_model.proofs.{Words.AreInRange, Words.KeptApart, Words.Tables, Words.comm_period, Words.cases_lt, Words.list_to, Words.mode_module, Words.slice_get_within, Listed.get_list_to, Listed.length-list_to}
use Rattle.htl_base.proofs.{Words.get_or_past, Words.same_Some}
use Rattle.std.proofs.lemmas.Option.{slice_get_past}
use Rattle.htl_exchange.proofs.{Cones.Cone, Matches.IsModeIn, Matches.owner_in, Matches.Matches, Matches.SameOn, Matches.SeenSame, Matches.moved, PortRanks.out_enough, SameStays.StaysSame, SameStays.stay_in}
use Rattle.htl_runs.specs.values.Values.{AreDistinct, IsDue}
use Rattle.htl_refine.proofs.Standing.{IsStanding}
use Rattle.htl_runs.proofs.values.DueWrites.{found_write, no_due}

-- two writes of one invocation that are due are of one round
one_start : (t : Tables) (stays : List (Option Stay)) (now i j k l c d : ℕ) (a : IsDue t stays now i k c) (b : IsDue t stays now j l d) → i ≡ j → a.start ≡ b.start
one_start t stays now i j k l c d a b same =
    let inv : a.inv ≡ b.inv = same_Some a.inv b.inv (sym a.stands.known ∙ ap (slice_get t.invs) same ∙ b.stands.known) in
    let one : ◌≡◌ {A = Stay} (record { mode = a.inv.mode; start = a.start }) (record { mode = b.inv.mode; start = b.start }) =
    same_Some _ _ (sym a.stands.in_round ∙ ap (λ (x : Inv). stay_of stays (mode_module t x.mode)) inv ∙ b.stands.in_round) in
    ap (λ (y : Stay). y.start) one

module _ (t u : Tables) (range : AreInRange t) (other : AreInRange u) (kept : KeptApart t 12) (also : KeptApart u 12) (s : Cone) (unit mode invocation : ℕ → ℕ) (e : Matches t u s unit mode invocation)
    (stays others : List (Option Stay)) (n now : ℕ) (st : IsStanding t stays n) (same : StaysSame t u range other s unit mode invocation e stays others) where
  period_same : (c : ℕ) → comm_period u c ≡ comm_period t c
  period_same c = ap (λ (xs : List Comm). elim (slice_get xs c) as (λ _. ℕ) [ Some x ↦ x.period | None ↦ 0 ]) e.comms

  -- where a module of the part is, by a mode of it
  stay_same : (m : ℕ) (is : IsModeIn t s m) → stay_of others (mode_module u (mode m)) ≡ option_map (moved mode) (stay_of stays (mode_module t m))
  stay_same m is = ap (stay_of others) (e.owners m is) ∙ same (mode_module t m) (owner_in t s m is)

  -- a write to a communicator of the part, elsewhere
  pub record IsDueThere (i k c start : ℕ) : Type 0 where
    pub inside : s.invs i
    pub due : IsDue u others now (invocation i) k c
    pub begun : due.start ≡ start

  due_there : (i k c : ℕ) (d : IsDue t stays now i k c) → s.comms c → IsDueThere i k c d.start
  due_there i k c d inside =
      let has = e.writers i k c d.instance d.inv d.stands.known d.stands.concrete d.end inside in
      let r = e.invs i has in
      let is : d.inv ≡ r.inv = same_Some d.inv r.inv (sym d.stands.known ∙ r.there) in
      let round : Inv → Option Stay = λ x. Some (record { mode = x.mode; start = d.start }) in
      let stands : stay_of stays (mode_module t r.inv.mode) ≡ round r.inv = ap (λ (x : Inv). stay_of stays (mode_module t x.mode)) (sym is) ∙ d.stands.in_round ∙ ap round is in
      record {
        inside = has;
        due = record {
          inv = r.other;
          start = d.start;
          instance = d.instance;
          stands = record {
            known = r.elsewhere;
            concrete = r.also;
            in_round = ap (λ m. stay_of others (mode_module u m)) r.mode_is ∙ stay_same r.inv.mode r.owner ∙ ap (option_map (moved mode)) stands
                ∙ ap (λ (m : ℕ). Some (record { mode = m; start = d.start })) (sym r.mode_is);
          };
          end = r.writes k c d.instance (ap (λ (x : Inv). slice_get x.writes k) (sym is) ∙ d.end);
          at = ap (λ p. d.start + d.instance * p) (period_same c) ∙ d.at;
        };
        begun = refl;
      }

  -- and one there is one here
  pub record IsDueHere (l k c : ℕ) : Type 0 where
    pub number : ℕ
    pub due : IsDue t stays now number k c

  due_here : (l k c : ℕ) → IsDue u others now l k c → s.comms c → IsDueHere l k c
  due_here l k c d inside =
      let w = e.others l k c d.instance d.inv d.stands.known d.stands.concrete d.end inside in
      let r = e.invs w.number w.inside in
      let is : r.other ≡ d.inv = same_Some r.other d.inv (sym r.elsewhere ∙ ap (slice_get u.invs) (sym w.is) ∙ d.stands.known) in
      let there : option_map (moved mode) (stay_of stays (mode_module t r.inv.mode)) ≡ Some (record { mode = mode r.inv.mode; start = d.start }) =
      sym (stay_same r.inv.mode r.owner) ∙ ap (λ m. stay_of others (mode_module u m)) (sym r.mode_is) ∙ ap (λ (x : Inv). stay_of others (mode_module u x.mode)) is
      ∙ d.stands.in_round ∙ ap (λ (x : Inv). Some (record { mode = x.mode; start = d.start })) (sym is) ∙ ap (λ (m : ℕ). Some (record { mode = m; start = d.start })) r.mode_is in
      record {
        number = w.number;
        due = record {
          inv = r.inv;
          start = d.start;
          instance = d.instance;
          stands = record {
            known = r.there;
            concrete = r.concrete;
            in_round = by r.inv.mode d.start r.owner (stay_of stays (mode_module t r.inv.mode)) refl there;
          };
          end = ap (λ (x : Inv). slice_get x.writes k) (sym (same_Some w.inv r.inv (sym w.there ∙ r.there))) ∙ w.end;
          at = ap (λ p. d.start + d.instance * p) (sym (period_same c)) ∙ d.at;
        };
      }
    where
      by : (m start : ℕ) → IsModeIn t s m → (o : Option Stay) → stay_of stays (mode_module t m) ≡ o → option_map (moved mode) o ≡ Some (record { mode = mode m; start = start }) → o ≡ Some (record { mode = m; start = start })
      by m start is None at f = absurd (let z : ⊥ = cc in z)
      by m start is (Some y) at f =
          let inside = owner_in t s m is in
          let both : moved mode y ≡ record { mode = mode m; start = start } = same_Some _ _ f in
          let named : eqb y.mode m ≡ true = sym (e.tests y.mode m (stay_in t u range other s unit mode invocation e stays n (mode_module t m) y st inside at) is) ∙ eq-eqb (mode y.mode) (mode m) (ap (λ (z : Stay). z.mode) both) in
          ap (λ (k : ℕ). Some (record { mode = k; start = y.start })) (eqb-true y.mode m named) ∙ ap (λ (k : ℕ). Some (record { mode = m; start = k })) (ap (λ (z : Stay). z.start) both)

  -- what a communicator of the part is written with
  pub written_same : (f h : ℕ → ℕ → ℤ) (old older : List ℤ) (c : ℕ) → SeenSame s f h → SameOn s old older → AreDistinct u others now → s.comms c
      → written u h others older now c ≡ written t f stays old now c
  written_same f h old older c seen was apart inside = by (write_from t stays c now 0 t.invs) (write_from u others c now 0 u.invs) refl refl
    where
      all : (v : Tables) (j : ℕ) → slice_get v.invs (0 + j) ≡ slice_get v.invs j
      all v j = let z : 0 + j ≡ j = omega arith in ap (slice_get v.invs) z

      by : (a b : Option Write) → write_from t stays c now 0 t.invs ≡ a → write_from u others c now 0 u.invs ≡ b → written_by u h older c b ≡ written_by t f old c a
      by None None p q = was c inside
      by None (Some w) p q =
          let r = due_here w.inv w.output c (found_write u others c now 0 u.invs w (all u) q).0 inside in
          absurd (no_due t stays c now p r.number w.output r.due)
      by (Some w) None p q =
          let r = due_there w.inv w.output c (found_write t stays c now 0 t.invs w (all t) p).0 inside in
          absurd (no_due u others c now q (invocation w.inv) w.output r.due)
      by (Some w) (Some v) p q =
          let d = found_write t stays c now 0 t.invs w (all t) p in
          let a = found_write u others c now 0 u.invs v (all u) q in
          let r = due_there w.inv w.output c d.0 inside in
          let one = apart (invocation w.inv) w.output v.inv v.output c r.due a.0 in
          let start : w.start ≡ v.start = sym d.1 ∙ sym r.begun ∙ one_start u others now (invocation w.inv) v.inv w.output v.output c c r.due a.0 one.0 ∙ a.1 in
          let both : ℕ = length u.invs + length t.invs in
          let back : length u.invs + length t.invs ≡ length t.invs + length u.invs = omega arith in
          ap (λ i. out (length u.invs) u h i v.start v.output) (sym one.0) ∙ ap (λ k. out (length u.invs) u h (invocation w.inv) v.start k) (sym one.1)
          ∙ ap (λ k. out (length u.invs) u h (invocation w.inv) k w.output) (sym start)
          ∙ sym (out_enough u other also h (invocation w.inv) w.start w.output r.due.inv r.due.stands.known r.due.stands.concrete both (length t.invs) back)
          ∙ e.outs f h seen both w.inv w.start w.output d.0.inv r.inside d.0.stands.known (slice_get_within d.0.inv.writes w.output _ d.0.end)
          ∙ out_enough t range kept f w.inv w.start w.output d.0.inv d.0.stands.known d.0.stands.concrete both (length u.invs) refl

-- ---- the values of an instant

list_at : (f : ℕ → ℤ) (n c : ℕ) → (n ≤ c → f c ≡ pos 0) → get_or (list_to f n) c (pos 0) ≡ f c
list_at f n c past = elim (cases_lt c n) [
  | inl less ↦ get_list_to f n c (pos 0) less
  | inr le ↦ get_or_past (list_to f n) c (pos 0) (let size = length-list_to f n in omega (arith, size, le)) ∙ sym (past le)
]

pub value_at : (t : Tables) (sensed seen : ℕ → ℕ → ℤ) (stays : List (Option Stay)) (old : List ℤ) (now c : ℕ) → get_or (next_values t sensed seen stays old now) c (pos 0) ≡ next_value t sensed seen stays old now c (slice_get t.comms c)
value_at t sensed seen stays old now c =
    list_at (λ c. next_value t sensed seen stays old now c (slice_get t.comms c)) (length t.comms) c
    (λ le. ap (next_value t sensed seen stays old now c) (slice_get_past t.comms c le))

pub first_at : (t : Tables) (sensed : ℕ → ℕ → ℤ) (c : ℕ) → get_or (first_values t sensed) c (pos 0) ≡ first_value sensed c (slice_get t.comms c)
first_at t sensed c =
    list_at (λ c. first_value sensed c (slice_get t.comms c)) (length t.comms) c (λ le. ap (first_value sensed c) (slice_get_past t.comms c le))
