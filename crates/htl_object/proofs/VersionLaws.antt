-- The two items in which the versions differ: what is spelled is read, and what is read is spelled so.
use Rattle.std.proofs.Common.{◌≡◌, ◌==◌, ◌||◌, ℕ, Bool, true, false, cond, List, ◌++◌, length, take, drop, Option, Some, None, Ok, refl, sym, ap, ◌∙◌, arith}
use Rattle.htl_object.proofs.Words.{codes, nat_le, w16, to_be_bytes, bytes_eq, le-leb, eqb-true, take_at, drop_at, take-append-drop, length-append, bytes_eq-Decides, is_name, name_bytes, name_at, Fits16, MalKind, Magic, Version, Index, text_at, version_of, platform_bytes, head_bytes, head_at, platform_at, IsPlatformName, tail_bytes, tail_at}
use Rattle.htl_object.specs.Reading.{IsBytes, Read, ◌>>=◌, bad_at, short, need}
use Rattle.htl_object.proofs.{Lawful.IsCodec, Lawful.Lawful, Lawful.Taken, Lawful.given-value, Lawful.needed, Lawful.field, Lawful.last, Lawful.checked, Lawful.counted, Lawful.whole, FieldLaws.number16, FieldLaws.name}
use Rattle.htl_object.proofs.ScheduleLaws.{AreSchedules, schedule, blocks}

-- just this text
text : (kind : MalKind) (t : List ℕ) → IsCodec (λ x. x) (λ x. x ≡ t) (text_at kind t)
text kind t = record { again = again; takes = takes }
  where
    again : (x rest : List ℕ) → x ≡ t → text_at kind t (x ++ rest) ≡ Ok (x, rest)
    again x rest e =
        let long : nat_le (length t) (length (t ++ rest)) ≡ true = le-leb _ _ (omega (arith, length-append t rest)) in
        let same : bytes_eq t t ≡ true = (bytes_eq-Decides t t).1 refl in
        let one : text_at kind t (t ++ rest) ≡ Ok (t, rest) = rw (long, take_at t rest (length t) refl, drop_at t rest (length t) refl, same) refl in
        ap (λ (y : List ℕ). text_at kind t (y ++ rest)) e ∙ one ∙ ap (λ (y : List ℕ). Ok (y, rest)) (sym e)

    takes : (bytes x rest : List ℕ) → IsBytes bytes → text_at kind t bytes ≡ Ok (x, rest) → Taken (λ x. x) (λ x. x) (λ x. x ≡ t) bytes x rest
    takes bytes x rest are e =
        let front = take (length t) bytes in
        let a = needed (nat_le (length t) (length bytes)) short (need (bytes_eq front t) (bad_at kind bytes) (Ok (t, drop (length t) bytes))) x rest e in
        let b = needed (bytes_eq front t) (bad_at kind bytes) (Ok (t, drop (length t) bytes)) x rest a.1 in
        let g = given-value t x (drop (length t) bytes) rest b.1 in
        let same : front ≡ t = (bytes_eq-Decides front t).0 b.0 in
        record {
          part = t;
          made = g.0;
          spelled = sym (take-append-drop (length t) bytes) ∙ ap (λ (y : List ℕ). y ++ drop (length t) bytes) same ∙ ap (λ (y : List ℕ). t ++ y) g.1;
          fit = refl;
        }

-- ---- the platform behind the version

abbrev fits : ℕ → Option (List ℕ) → Type 0
fits version None = (version == 1) ≡ true
fits version (Some n) = ((version == 1) ≡ false) × (is_name n ≡ true)

some_name : Lawful (λ n. Some n) name_bytes (λ n. is_name n ≡ true) (λ bytes. name_at bytes >>= λ n rest. Ok (Some n, rest))
some_name = last {make = λ n. Some n} name

platform : (version : ℕ) → IsCodec platform_bytes (fits version) (platform_at version)
platform version = record { again = again; takes = takes }
  where
    named : List ℕ → Read (Option (List ℕ))
    named bytes = name_at bytes >>= λ n rest. Ok (Some n, rest)

    again : (o : Option (List ℕ)) (rest : List ℕ) → fits version o → platform_at version (platform_bytes o ++ rest) ≡ Ok (o, rest)
    again None rest f = ap (λ (b : Bool). cond b (Ok (None, rest)) (name_at rest >>= λ n s. Ok (Some n, s))) f
    again (Some n) rest f =
        ap (λ (b : Bool). cond b (Ok (None, name_bytes n ++ rest)) (name_at (name_bytes n ++ rest) >>= λ m s. Ok (Some m, s))) f.0
        ∙ some_name.again n rest f.1

    takes : (bytes : List ℕ) (o : Option (List ℕ)) (rest : List ℕ) → IsBytes bytes → platform_at version bytes ≡ Ok (o, rest) → Taken (λ x. x) platform_bytes (fits version) bytes o rest
    takes bytes o rest are e = by (version == 1) refl
      where
        by : (b : Bool) → (version == 1) ≡ b → Taken (λ x. x) platform_bytes (fits version) bytes o rest
        by true v =
            let g = given-value None o bytes rest (sym (ap (λ (b : Bool). cond b (Ok (None, bytes)) (name_at bytes >>= λ n s. Ok (Some n, s))) v) ∙ e) in
            record { part = None; made = g.0; spelled = g.1; fit = v }
        by false v =
            let t = some_name.takes bytes o rest are (sym (ap (λ (b : Bool). cond b (Ok (None, bytes)) (name_at bytes >>= λ n s. Ok (Some n, s))) v) ∙ e) in
            record { part = Some t.part; made = t.made; spelled = t.spelled; fit = (v, t.fit) }

-- ---- the head

abbrev Parts : Type 0
Parts = List ℕ × (ℕ × Option (List ℕ))

abbrev is_version : ℕ → Bool
is_version n = n == 1 || n == 2

to : (o : Option (List ℕ)) → IsPlatformName o → Fits16 is_version (version_of o) × fits (version_of o) o
to None f = ((omega arith, refl), refl)
to (Some n) f = ((omega arith, refl), (refl, f))

second : (v : ℕ) → is_version v ≡ true → (v == 1) ≡ false → v ≡ 2
second v any other = eqb-true v 2 (sym (ap (λ (b : Bool). b || (v == 2)) other) ∙ any)

of_version : (v : ℕ) (o : Option (List ℕ)) → Fits16 is_version v → fits v o → (version_of o ≡ v) × IsPlatformName o
of_version v None f g = (sym (eqb-true v 1 g), tt)
of_version v (Some n) f g = (sym (second v f.1 g.0), g.1)

pub head : IsCodec head_bytes IsPlatformName head_at
head =
    whole (λ (p : Parts). p.1.1) (λ o. (codes "HTLO", (version_of o, o))) head_bytes IsPlatformName
    (field (text Magic (codes "HTLO")) (λ _ _. field (checked Version is_version number16) (λ _ v. platform v)))
    (λ o f. (refl, refl, (refl, to o f)))
    (λ p f.
    let h = of_version p.1.0 p.1.1 f.1.0 f.1.1 in (
      ap (λ (v : ℕ). codes "HTLO" ++ (to_be_bytes w16 v ++ platform_bytes p.1.1)) h.0
          ∙ ap (λ (t : List ℕ). t ++ (to_be_bytes w16 p.1.0 ++ platform_bytes p.1.1)) (sym f.0),
      h.1,
    ))

-- ---- the tail

pub tail : (platform : Option (List ℕ)) (test : ℕ → Bool) → IsCodec (tail_bytes platform) (AreSchedules test) (tail_at platform test)
tail None test = counted (checked Index test number16) (λ _. schedule)
tail (Some name) test = blocks test
