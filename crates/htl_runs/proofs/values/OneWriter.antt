-- No communicator is written twice at once, where the rule on concrete writers is kept.
use Rattle.std.proofs.Common.{◌≡◌, ◌≢◌, ℕ, zero, suc, ◌<◌, true, false, eqb, List, Option, Some, None, refl, sym, ap, ◌∙◌, arith, ◌⊎◌, inl, inr}
use Rattle.htl_runs.proofs.Words.{eq-eqb, cases_eq, Comm, Stay, Tables, comm_period, mode_module, AreInRange, IsInvInRange, IsEndInRange, IsCommInRange, ConcreteWriters, Output, OutputBefore, KeptApart, stay_of, runs, IsDue, AreDistinct, IsStanding, each_at, item_at, same_Some, times_same, cases_less_more, runs_is}
use Rattle.htl_model.specs.declared.parts.End.TheVariants as E
use Rattle.htl_model.specs.SecondWriters.{OnPath, itself, above, StandTogether, AreSameWrite, WritesBefore}

-- where a number with a property is no least one, item_at is none
pub no_least : (P : ℕ → Type 0) → ((l : ℕ) → P l → ((m : ℕ) → m < l → P m → ⊥) → ⊥) → (l : ℕ) → P l → ⊥
no_least P f l p = by_bound (suc l) l (omega arith) p
  where
    by_bound : (b l : ℕ) → l < b → P l → ⊥
    by_bound zero l h p = omega arith
    by_bound (suc b) l h p = f l p (λ m g q. by_bound b m (omega arith) q)

-- ---- the modes of a path run together

pub stay_runs : (t : Tables) (stays : List (Option Stay)) (m s : ℕ) → stay_of stays (mode_module t m) ≡ Some (record { mode = m; start = s }) → runs t stays m ≡ true
stay_runs t stays m s e = ap (λ (o : Option Stay). elim o [ Some x ↦ eqb x.mode m | None ↦ false ]) e ∙ eq-eqb m m refl

path_runs : (t : Tables) (stays : List (Option Stay)) (n a b : ℕ) → IsStanding t stays n → OnPath t a b → runs t stays a ≡ true → runs t stays b ≡ true
path_runs t stays n a b st (itself m) r = r
path_runs t stays n a b st (above m p c e path) r =
    let y = runs_is t stays m r in
    path_runs t stays n p c st path (st.parent (mode_module t m) p y.0 y.1 e)

-- modes that run stand together
together : (t : Tables) (stays : List (Option Stay)) (n a b : ℕ) → IsStanding t stays n → runs t stays a ≡ true → runs t stays b ≡ true → StandTogether t a b
together t stays n a b st ra rb x y px py same =
    let rx = runs_is t stays x (path_runs t stays n a x st px ra) in
    let ry = runs_is t stays y (path_runs t stays n b y st py rb) in
    sym rx.2 ∙ ap (λ (z : Stay). z.mode) (same_Some _ _ (sym rx.1 ∙ ap (stay_of stays) same ∙ ry.1)) ∙ ry.2

outputs_apart : (i k j l : ℕ) → OutputBefore i k j l ⊎ (OutputBefore j l i k ⊎ ((i ≡ j) × (k ≡ l)))
outputs_apart i k j l = grind (arith, cases_less_more)

module _ (t : Tables) (range : AreInRange t) (kept : KeptApart t 12) (stays : List (Option Stay)) (n now : ℕ) (standing : IsStanding t stays n) where
  -- the instance is the same where the mode is
  same_write : (i k j l c : ℕ) (a : IsDue t stays now i k c) (b : IsDue t stays now j l c) → AreSameWrite t a.inv.mode a.instance b.inv.mode b.instance
  same_write i k j l c a b = by_mode (cases_eq a.inv.mode b.inv.mode)
    where
      by_mode : (a.inv.mode ≡ b.inv.mode) ⊎ (a.inv.mode ≢ b.inv.mode) → AreSameWrite t a.inv.mode a.instance b.inv.mode b.instance
      by_mode (inr d) =
          inr (d, together t stays n a.inv.mode b.inv.mode standing (stay_runs t stays a.inv.mode a.start a.stands.in_round) (stay_runs t stays b.inv.mode b.start b.stands.in_round))
      by_mode (inl e) =
          let one : ◌≡◌ {A = Stay} (record { mode = a.inv.mode; start = a.start }) (record { mode = b.inv.mode; start = b.start }) =
          same_Some _ _ (sym a.stands.in_round ∙ ap (λ m. stay_of stays (mode_module t m)) e ∙ b.stands.in_round) in
          let start : a.start ≡ b.start = ap (λ (z : Stay). z.start) one in
          let inv = each_at (IsInvInRange t) t.invs range.invs i a.inv a.stands.known in
          let comm = item_at t.comms c (each_at (IsEndInRange t a.inv.mode) a.inv.writes inv.writes k (E.Comm c a.instance) a.end).0 in
          let span = (each_at IsCommInRange t.comms range.comms c comm.0 comm.1).period in
          let period : comm_period t c ≡ comm.0.period = ap (λ (o : Option Comm). elim o [ Some x ↦ x.period | None ↦ 0 ]) comm.1 in
          inl (e, times_same a.instance b.instance (comm_period t c) (omega (arith, span.some, period)) (omega (arith, a.at, b.at, start)))

  -- the earlier of two writes of one communicator breaks the rule
  not_twice : (i k j l c : ℕ) → IsDue t stays now i k c → IsDue t stays now j l c → OutputBefore i k j l → ⊥
  not_twice i k j l c a b earlier =
      let inv = each_at (IsInvInRange t) t.invs range.invs j b.inv b.stands.known in
      let mode = item_at t.modes b.inv.mode inv.owner in
      no_least (WritesBefore t j b.inv l c b.instance)
      (λ h w least.
      kept ConcreteWriters (record { mode = b.inv.mode; inv = Some j; part = Output l }) h c (omega arith) (λ e. omega (arith, e))
      (mode.0, mode.1, (b.inv, b.stands.known, refl, (E.Comm c b.instance, b.end, (refl, b.stands.concrete, w, least)))))
      i (a.inv, a.stands.known, a.stands.concrete, k, a.instance, earlier, a.end, same_write i k j l c a b)

  pub distinct : AreDistinct t stays now
  distinct i k j l c a b =
      elim (outputs_apart i k j l) [
        | inl h ↦ absurd (not_twice i k j l c a b h)
        | inr (inl h) ↦ absurd (not_twice j l i k c b a h)
        | inr (inr e) ↦ e
      ]
