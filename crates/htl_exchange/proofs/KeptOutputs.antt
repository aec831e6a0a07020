-- What the invocations of the cone put out is what they put out.
use Rattle.std.proofs.Common.{◌≡◌, ◌<◌, ◌+◌, ◌*◌, ℕ, zero, suc, Bool, true, false, cond, eqb, List, [], ◌∷◌, length, map, slice_get, Option, Some, None, option_map, ℤ, pos, refl, sym, ◌∙◌, ap, subst, arith, All}
use Rattle.htl_exchange.proofs.{Words.End, Words.Inv, Words.Task, Words.input_value, Words.out, Words.out_by, Words.port_output, Words.writer_from, Cones.Cone, Cones.ComesFrom, Cones.IsUntouched, Matches.IsModeIn, Matches.SeenSame}
use Rattle.htl_base.specs.declared.Ty.{Ty}
use Rattle.htl_model.specs.declared.parts.End.TheVariants as E
use Rattle.htl_model.proofs.Words.{KeptApart, is_concrete, comm_period}
use Rattle.htl_model.specs.Tables.{function_value, output_function}
use Rattle.htl_base.proofs.Places.{map_same}
use Rattle.htl_patch.proofs.Words.{same_Some, slice_get_within, get_or_from_slice_get, all_at, AreInRange, Tables, function_count, invs_of, inv_of_mode, Joins, Replacement, donor_inv, get_front, mode_module, new_numbers, patched, place_among, places_from, Numbering, inv_at, new_end, new_inv}
use Rattle.htl_patch.proofs.{Members.Has, Members.map_map, Members.place_test, Renumbering.inv_there, Replacing.CanReplace, Rooted.AreKept, Rooted.IsKept, Rooted.ends_kept, Rooted.in_range}
use Rattle.htl_runs.proofs.values.JobOutputs.{writer_is}
use Rattle.htl_emach.proofs.{Completing.concrete_task, Soundness.has_ends}
use Rattle.htl_exchange.proofs.{KeptItems.inv_has, KeptItems.inv_mode_in, KeptItems.invs_same, KeptItems.mode_has, KeptItems.new_inv_there, KeptFunctions.output_same, TakenInvs.task_taken}

-- the first writer of a port among these invocations, with the place of its output
abbrev pub first_writer : Tables → ℕ → List ℕ → Option (ℕ × ℕ)
first_writer t p [] = None
first_writer t p (k ∷ ks) = elim (port_output p 0 (inv_at t k).writes) [ Some o ↦ Some (k, o) | None ↦ first_writer t p ks ]

-- of all invocations those of the mode alone count
writer_of : (t : Tables) (m p k : ℕ) (xs : List Inv) → ((i : ℕ) → slice_get t.invs (k + i) ≡ slice_get xs i) → writer_from m p k xs ≡ first_writer t p (places_from (inv_of_mode m) k xs)
writer_of t m p k [] at = refl
writer_of t m p k (x ∷ xs) at =
    by (eqb x.mode m) (writer_of t m p (suc k) xs (λ i. (let z : suc k + i ≡ k + suc i = omega arith in ap (slice_get t.invs) z ∙ at (suc i))))
  where
    here : inv_at t k ≡ x
    here = let z : k ≡ k + 0 = omega arith in get_or_from_slice_get t.invs k x _ (ap (slice_get t.invs) z ∙ at 0)

    by : (b : Bool) → writer_from m p (suc k) xs ≡ first_writer t p (places_from (inv_of_mode m) (suc k) xs)
        → elim (cond b (port_output p 0 x.writes) None) as (λ _. Option (ℕ × ℕ)) [ Some o ↦ Some (k, o) | None ↦ writer_from m p (suc k) xs ]
        ≡ first_writer t p (cond b (k ∷ places_from (inv_of_mode m) (suc k) xs) (places_from (inv_of_mode m) (suc k) xs))
    by false rest = rest
    by true rest =
        ap (λ (y : Inv). elim (port_output p 0 y.writes) as (λ _. Option (ℕ × ℕ)) [ Some o ↦ Some (k, o) | None ↦ writer_from m p (suc k) xs ]) (sym here)
        ∙ ap (λ (q : Option (ℕ × ℕ)). elim (port_output p 0 (inv_at t k).writes) as (λ _. Option (ℕ × ℕ)) [ Some o ↦ Some (k, o) | None ↦ q ]) rest

writer_first : (t : Tables) (m p : ℕ) → writer_from m p 0 t.invs ≡ first_writer t p (invs_of t m)
writer_first t m p = writer_of t m p 0 t.invs (λ i. (let z : 0 + i ≡ i = omega arith in ap (slice_get t.invs) z))

-- at an output of a concrete invocation its task has a function
output_task : (t : Tables) (k o : ℕ) (x : Inv) → AreInRange t → KeptApart t 12 → slice_get t.invs k ≡ Some x → is_concrete t x ≡ true → o < length x.writes
    → (y : Task) × (slice_get t.tasks x.task ≡ Some y) × (o < function_count y)
output_task t k o x range kept at concrete less =
    let y = concrete_task t k x range at concrete in
    (y.task, y.at, omega (arith, less, (has_ends t 12 (omega arith) range kept).writes k x at, ap (λ (z : List Ty). length z) y.outs, y.count))

module _ (g : Replacement) (c : CanReplace g) (j : Joins g) (range : AreInRange (patched g)) (kept : KeptApart g.host 12) (s : Cone) (a : IsUntouched g s) where
  abbrev t : Tables
  t = g.host

  abbrev n : Numbering
  n = new_numbers g

  -- a writer, with the new number of its invocation
  abbrev new_writer : ℕ × ℕ → ℕ × ℕ
  new_writer w = (place_among w.0 n.invs, w.1)

  -- ---- who writes a port

  port_output_same : (p k : ℕ) (ends : List End) → Has n.ports p → AreKept g c ends → port_output (place_among p n.ports) k (map (new_end n) ends) ≡ port_output p k ends
  port_output_same p k [] h all = refl
  port_output_same p k (E.Comm d m ∷ ends) h all = port_output_same p (suc k) ends h (λ e i. all e (suc i.0, i.1))
  port_output_same p k (E.Port q ∷ ends) h all =
      ap (λ b. cond b (Some k) (port_output (place_among p n.ports) (suc k) (map (new_end n) ends))) (place_test n.ports p q h (all (E.Port q) (0, refl)))
      ∙ ap (cond (eqb p q) (Some k)) (port_output_same p (suc k) ends h (λ e i. all e (suc i.0, i.1)))

  writers_same : (m p : ℕ) (ks : List ℕ) → IsModeIn t s m → Has n.ports p → ((k : ℕ) → Has ks k → Has (invs_of t m) k)
      → first_writer (patched g) (place_among p n.ports) (map (λ k. place_among k n.invs) ks) ≡ option_map new_writer (first_writer t p ks)
  writers_same m p [] is h all = refl
  writers_same m p (k ∷ ks) is h all =
      let r = inv_there t m k (all k (0, refl)) in
      let x : Inv = r.0 in
      let place = place_among k n.invs in
      let mode : IsModeIn t s x.mode = subst (IsModeIn t s) (sym r.2) is in
      let new : inv_at (patched g) place ≡ new_inv n x = get_or_from_slice_get (patched g).invs place (new_inv n x) _ (new_inv_there g c s a k x r.1 mode) in
      let old : inv_at t k ≡ x = get_or_from_slice_get t.invs k x _ r.1 in
      let outs = port_output_same p 0 x.writes h (ends_kept g c x.mode (mode_has g c s a x.mode mode) x.writes (in_range g c k x r.1).writes) in
      let rest = first_writer (patched g) (place_among p n.ports) (map (λ k. place_among k n.invs) ks) in
      ap (λ (y : Inv). elim (port_output (place_among p n.ports) 0 y.writes) as (λ _. Option (ℕ × ℕ)) [ Some o ↦ Some (place, o) | None ↦ rest ]) new
      ∙ ap (λ (q : Option ℕ). elim q as (λ _. Option (ℕ × ℕ)) [ Some o ↦ Some (place, o) | None ↦ rest ]) outs
      ∙ ap (λ (w : Option (ℕ × ℕ)). elim (port_output p 0 x.writes) as (λ _. Option (ℕ × ℕ)) [ Some o ↦ Some (place, o) | None ↦ w ]) (writers_same m p ks is h (λ i l. all i (suc l.0, l.1)))
      ∙ by (port_output p 0 x.writes)
      ∙ ap (λ (y : Inv). option_map new_writer (elim (port_output p 0 y.writes) as (λ _. Option (ℕ × ℕ)) [ Some o ↦ Some (k, o) | None ↦ first_writer t p ks ])) (sym old)
    where
      by : (o : Option ℕ) → elim o as (λ _. Option (ℕ × ℕ)) [ Some o ↦ Some (place_among k n.invs, o) | None ↦ option_map new_writer (first_writer t p ks) ]
          ≡ option_map new_writer (elim o as (λ _. Option (ℕ × ℕ)) [ Some o ↦ Some (k, o) | None ↦ first_writer t p ks ])
      by (Some o) = refl
      by None = refl

  writer_same : (m p : ℕ) → IsModeIn t s m → Has n.ports p → writer_from (place_among m n.modes) (place_among p n.ports) 0 (patched g).invs ≡ option_map new_writer (writer_from m p 0 t.invs)
  writer_same m p is h =
      writer_first (patched g) (place_among m n.modes) (place_among p n.ports) ∙ ap (first_writer (patched g) (place_among p n.ports)) (invs_same g c s a m is)
      ∙ writers_same m p (invs_of t m) is h (λ k l. l) ∙ ap (option_map new_writer) (sym (writer_first t m p))

  -- ---- what is put out

  pub out_same : (f h : ℕ → ℕ → ℤ) → SeenSame s f h → (steps k start o : ℕ) (x : Inv) → s.invs k → slice_get t.invs k ≡ Some x → o < length x.writes
      → out steps (patched g) h (place_among k n.invs) start o ≡ out steps t f k start o
  out_same f h seen zero k start o x inside at less = refl
  out_same f h seen (suc steps) k start o x inside at less =
      let r = a.invs k inside in
      let same : r.0 ≡ x = same_Some r.0 x (sym r.1 ∙ at) in
      let reads = subst (λ (y : Inv). All (ComesFrom t s) y.reads) same r.2.reads in
      let is = inv_mode_in g c s a k x at (subst (λ (y : Inv). s.modules (mode_module t y.mode)) same r.2.owner) in
      let task = output_task t k o x c.host kept at (subst (λ (y : Inv). is_concrete t y ≡ true) same r.2.concrete) less in
      let made : ℕ → ℕ → ℤ = λ w q. out steps t f w start q in
      let others : ℕ → ℕ → ℤ = λ w q. out steps (patched g) h w start q in
      let has = inv_has g c s a k x at is in
      let front = get_front t.invs (map (donor_inv g) g.donor.invs) k x at in
      ap (out_by (patched g) h others start o) (new_inv_there g c s a k x at is)
      ∙ ap (function_value (patched g) (output_function (patched g) (place_among x.task n.tasks) o))
      (map_map (input_value (patched g) h others (place_among x.mode n.modes) start) (new_end n) x.reads
      ∙ map_same (λ e. input_value (patched g) h others (place_among x.mode n.modes) start (new_end n e)) (input_value t f made x.mode start) x.reads
      (λ i e is_there. by_end is (λ w q y inw atw lessw. out_same f h seen steps w start q y inw atw lessw) e (all_at (ComesFrom t s) x.reads i e reads is_there)
      (ends_kept g c x.mode (mode_has g c s a x.mode is) x.reads (in_range g c k x at).reads e (i, is_there))))
      ∙ output_same g c j range x.task o task.0 (map (input_value t f made x.mode start) x.reads) (task_taken g c j k x has front) task.1 task.2
      ∙ sym (ap (out_by t f made start o) at)
    where
      by_end : IsModeIn t s x.mode → ((w q : ℕ) (y : Inv) → s.invs w → slice_get t.invs w ≡ Some y → q < length y.writes → out steps (patched g) h (place_among w n.invs) start q ≡ out steps t f w start q)
          → (e : End) → ComesFrom t s e → IsKept g c e
          → input_value (patched g) h (λ w q. out steps (patched g) h w start q) (place_among x.mode n.modes) start (new_end n e) ≡ input_value t f (λ w q. out steps t f w start q) x.mode start e
      by_end is later (E.Comm d m) comes has = seen d (start + m * comm_period t d) comes
      by_end is later (E.Port p) comes has =
          ap (λ (q : Option (ℕ × ℕ)). elim q as (λ _. ℤ) [ Some w ↦ out steps (patched g) h w.0 start w.1 | None ↦ pos 0 ]) (writer_same x.mode p is has)
          ∙ by_writer (writer_from x.mode p 0 t.invs) refl
        where
          by_writer : (q : Option (ℕ × ℕ)) → writer_from x.mode p 0 t.invs ≡ q
              → elim (option_map new_writer q) as (λ _. ℤ) [ Some w ↦ out steps (patched g) h w.0 start w.1 | None ↦ pos 0 ] ≡ elim q as (λ _. ℤ) [ Some w ↦ out steps t f w.0 start w.1 | None ↦ pos 0 ]
          by_writer None e = refl
          by_writer (Some w) e =
              let d = writer_is t x.mode p w.0 w.1 e in
              later w.0 w.1 d.inv (comes w.0 w.1 (d.inv, d.known, d.end)) d.known (slice_get_within d.inv.writes w.1 (E.Port p) d.end)
