-- A key that is put into an index of keys.
use Rattle.std.proofs.Common.{◌≡◌, ◌<◌, ◌+◌, ℕ, zero, suc, Bool, true, false, ◌||◌, cond, List, [], ◌∷◌, ◌++◌, length, take, get_or, Vec, Option, Some, refl, sym, ap, ◌∙◌, arith}
use Rattle.htl_platform.proofs.Words.{Module, Task, Entry, key_of, entries_of, worst_of, is_declared, first_failing, bad_key, Tables, Members, Global, list_any, bytes_eq, list_any-append, bytes_eq-Decides, insert_key, has_key, keys_of, Holds}

or_none : (b : Bool) → b ≡ (b || (false || false))
or_none true = refl
or_none false = refl

or_true : (b : Bool) → true ≡ (b || (true || false))
or_true true = refl
or_true false = refl

module _ (eq : Vec ℕ Global → Vec ℕ Global → Bool) (same : (a b : Vec ℕ Global) → eq a b ≡ bytes_eq a.items b.items) where
  any_same : (v : Vec ℕ Global) (ks : List (Vec ℕ Global)) → has_key ks v.items ≡ list_any (eq v) ks
  any_same v [] = refl
  any_same v (k ∷ ks) = ap (λ (b : Bool). b || has_key ks v.items) (sym (same v k)) ∙ ap (λ (b : Bool). eq v k || b) (any_same v ks)

  there : (v : Vec ℕ Global) (ks : List (Vec ℕ Global)) (texts : List (List ℕ)) → Holds ks texts → list_any (eq v) ks ≡ true → (key : List ℕ) (b : Bool) → bytes_eq key v.items ≡ b
      → has_key ks key ≡ (list_any (bytes_eq key) texts || (b || false))
  there v ks texts h e key true is =
      ap (has_key ks) ((bytes_eq-Decides key v.items).0 is) ∙ any_same v ks ∙ e ∙ or_true (list_any (bytes_eq key) texts)
  there v ks texts h e key false is = h key ∙ or_none (list_any (bytes_eq key) texts)

  pub Holds-insert : (ks : List (Vec ℕ Global)) (v : Vec ℕ Global) (texts : List (List ℕ)) → Holds ks texts → Holds (insert_key eq ks v) (texts ++ v.items ∷ [])
  Holds-insert ks v texts h key = by (list_any (eq v) ks) refl ∙ sym (list_any-append (bytes_eq key) texts (v.items ∷ []))
    where
      by : (b : Bool) → list_any (eq v) ks ≡ b → has_key (insert_key eq ks v) key ≡ (list_any (bytes_eq key) texts || (bytes_eq key v.items || false))
      by true e =
          ap (λ (b : Bool). has_key (cond b ks (ks ++ v ∷ [])) key) e ∙ there v ks texts h e key (bytes_eq key v.items) refl
      by false e =
          ap (λ (b : Bool). has_key (cond b ks (ks ++ v ∷ [])) key) e ∙ list_any-append (λ (k : Vec ℕ Global). bytes_eq key k.items) ks (v ∷ [])
          ∙ ap (λ (b : Bool). b || (bytes_eq key v.items || false)) (h key)

  pub Holds-step : (new old : List (Vec ℕ Global)) (v : Vec ℕ Global) (texts all : List (List ℕ)) → new ≡ insert_key eq old v → Holds old texts → all ≡ texts ++ v.items ∷ [] → Holds new all
  Holds-step new old v texts all put h more key =
      ap (λ (ks : List (Vec ℕ Global)). has_key ks key) put ∙ Holds-insert old v texts h key ∙ ap (λ (ts : List (List ℕ)). list_any (bytes_eq key) ts) (sym more)

keys-suc : (modules : List Module) (ts : List Task) (k : ℕ) (x : Task) → x ≡ get_or ts k x → k < length ts → keys_of modules (take (suc k) ts) ≡ keys_of modules (take k ts) ++ key_of modules x ∷ []
keys-suc modules [] k x is less = absurd (omega (arith, less))
keys-suc modules (t ∷ ts) zero x is less = ap (λ (y : Task). key_of modules y ∷ []) (sym is)
keys-suc modules (t ∷ ts) (suc k) x is less = ap (λ (ns : List (List ℕ)). key_of modules t ∷ ns) (keys-suc modules ts k x is (omega (arith, less)))

pub keys-next : (modules : List Module) (ts : List Task) (k : ℕ) (x : Task) (text : List ℕ) → x ≡ get_or ts k x → k < length ts → text ≡ key_of modules x
    → keys_of modules (take (k + 1) ts) ≡ keys_of modules (take k ts) ++ text ∷ []
keys-next modules ts k x text is less said =
    let more : k + 1 ≡ suc k = omega arith in
    ap (λ (n : ℕ). keys_of modules (take n ts)) more ∙ keys-suc modules ts k x is less ∙ ap (λ (t : List ℕ). keys_of modules (take k ts) ++ t ∷ []) (sym said)

declared-keys : (modules : List Module) (ts : List Task) (key : List ℕ) → list_any (bytes_eq key) (keys_of modules ts) ≡ list_any (λ k. bytes_eq key (key_of modules k)) ts
declared-keys modules [] key = refl
declared-keys modules (t ∷ ts) key = ap (λ (b : Bool). bytes_eq key (key_of modules t) || b) (declared-keys modules ts key)

first_failing-same : (f g : Entry → Bool) → ((e : Entry) → f e ≡ g e) → (k : ℕ) (es : List Entry) → first_failing f k es ≡ first_failing g k es
first_failing-same f g same k [] = refl
first_failing-same f g same k (e ∷ es) =
    ap (λ (b : Bool). cond b (first_failing f (suc k) es) (Some k)) (same e)
    ∙ ap (λ (o : Option ℕ). cond (g e) o (Some k)) (first_failing-same f g same (suc k) es)

pub bad_key-index : (index : List (Vec ℕ Global)) (t : Tables) (modules : List Module) (tasks : List Task) (ms : Members) → Holds index (keys_of modules tasks)
    → modules ≡ t.modules → tasks ≡ t.tasks
    → first_failing (λ (e : Entry). has_key index e.0) (length (entries_of ms)) (entries_of (worst_of ms)) ≡ bad_key t ms
bad_key-index index t modules tasks ms h of_modules of_tasks =
    let holds : Holds index (keys_of t.modules t.tasks) =
    λ key. h key ∙ ap (λ (owners : List Module). list_any (bytes_eq key) (keys_of owners tasks)) of_modules
    ∙ ap (λ (ks : List Task). list_any (bytes_eq key) (keys_of t.modules ks)) of_tasks in
    first_failing-same (λ (e : Entry). has_key index e.0) (is_declared t) (λ e. holds e.0 ∙ declared-keys t.modules t.tasks e.0) (length (entries_of ms)) (entries_of (worst_of ms))
