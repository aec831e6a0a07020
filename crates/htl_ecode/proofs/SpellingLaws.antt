-- E code spells tables exactly where it departs from them nowhere.
use Rattle.std.proofs.Common.{◌≡◌, ◌↔◌, ℕ, zero, suc, ◌<◌, List, [], ◌∷◌, length, None, Result, Ok, Err, IsOk, IfOk, All, refl, sym, ap, subst, arith, inl, inr}
use Rattle.htl_ecode.proofs.Words.{All-nil, All-cons, All-head, All-tail, Tables, ECode, EInstr, EFault, Requirement, enter_chain, begin_chain, block_chain, decide_chain, Step, read, Block, blocks, fault_of, block_faults, mode_fault, departure_before, departure, enter_fault, begin_fault, phase_fault, decide_fault, entered, block_begun, decided, HasPath, SpellsMode, Spells, HasBlocks, layout}
use Rattle.htl_ecode.proofs.{Spelled.Reads, Spelled.ModeReads, Spelled.Stands, Spelled.either_none, Spelled.spelled_reads, LayoutLaw.either_both, LayoutLaw.layout_departs_not}
use Rattle.htl_ecode.proofs.BlockLaws.{IsBlockPhase, spelled_stands, spelled_links, spelled_first, no_block}

path_fault : (r : Result (List Step) EFault) → IsOk r → fault_of r ≡ None
path_fault (Ok ss) h = refl
path_fault (Err e) h = absurd (let z : ⊥ = cc in z)

fault_path : (r : Result (List Step) EFault) → fault_of r ≡ None → IsOk r
fault_path (Ok ss) h = refl
fault_path (Err e) h = absurd (let z : ⊥ = cc in z)

pub read_path : (code : List EInstr) (a : ℕ) (ws : List Requirement) → Reads code a ws → HasPath code a ws
read_path code a ws r = fault_path (read code a ws) (ap fault_of r.1)

module _ (t : Tables) (code : List EInstr) (m phase : ℕ) where
  abbrev HasItsPath : Block → Type 0
  HasItsPath b = HasPath code b.address (block_chain t m phase b.offset)

  paths_faults : (bs : List Block) → All HasItsPath bs → block_faults t code m phase bs ≡ None
  paths_faults [] all = refl
  paths_faults (b ∷ bs) all =
      either_both (fault_of (read code b.address (block_chain t m phase b.offset))) (block_faults t code m phase bs) (path_fault _ (All-head HasItsPath b bs all))
      (paths_faults bs (All-tail HasItsPath b bs all))

  faults_paths : (bs : List Block) → block_faults t code m phase bs ≡ None → All HasItsPath bs
  faults_paths [] e = All-nil HasItsPath
  faults_paths (b ∷ bs) e =
      let h = either_none (fault_of (read code b.address (block_chain t m phase b.offset))) (block_faults t code m phase bs) e in
      All-cons HasItsPath b bs (fault_path _ h.0) (faults_paths bs h.1)

mode_departs_not : (t : Tables) (code : ECode) (m : ℕ) → SpellsMode t code m → mode_fault t code m ≡ None
mode_departs_not t code m s =
    either_both (enter_fault t code m) _ (path_fault _ s.enters)
    (either_both (begin_fault t code m) _ (path_fault _ s.begins)
    (either_both (phase_fault t code m 1) _ (paths_faults t code.instrs m 1 (blocks t code m 1) s.writes)
    (either_both (phase_fault t code m 3) (decide_fault t code m) (paths_faults t code.instrs m 3 (blocks t code m 3) s.reads) (path_fault _ s.decides))))

before_departs_not : (t : Tables) (code : ECode) (n : ℕ) → ((m : ℕ) → m < n → SpellsMode t code m) → departure_before t code n ≡ None
before_departs_not t code zero all = refl
before_departs_not t code (suc n) all =
    either_both (departure_before t code n) (mode_fault t code n) (before_departs_not t code n (λ m h. all m (omega arith))) (mode_departs_not t code n (all n (omega arith)))

pub spelled_departs_not : (t : Tables) (code : ECode) → Spells t code → departure t code ≡ None
spelled_departs_not t code s = before_departs_not t code (length t.modes) s

reads_mode : (t : Tables) (code : ECode) (m : ℕ) → ModeReads t code m → SpellsMode t code m
reads_mode t code m r =
    record {
      enters = read_path code.instrs (entered code m) (enter_chain t (block_begun code m) m) r.enters;
      begins = read_path code.instrs (block_begun code m) (begin_chain t (decided code m) m) r.begins;
      writes = faults_paths t code.instrs m 1 (blocks t code m 1) r.writes;
      reads = faults_paths t code.instrs m 3 (blocks t code m 3) r.reads;
      decides = read_path code.instrs (decided code m) (decide_chain t (block_begun code m) code.enter m) r.decides;
    }

pub departs_not_spells : (t : Tables) (code : ECode) → departure t code ≡ None → Spells t code
departs_not_spells t code e m h = reads_mode t code m (spelled_reads t code m e h)

pub spells_or_departs : (t : Tables) (code : ECode) → Spells t code ↔ (departure t code ≡ None)
spells_or_departs t code = (spelled_departs_not t code, departs_not_spells t code)

-- ---- the layout

pub layout_spells : (t : Tables) → Spells t (layout t)
layout_spells t = departs_not_spells t (layout t) (layout_departs_not t)

-- where the answer is the layout, it spells the tables
pub made_spells : {E : Type 0} (t : Tables) (r : Result ECode E) → IfOk r (λ code. code ≡ layout t) → IfOk r (λ code. Spells t code)
made_spells t (Ok code) e = subst (Spells t) (sym e) (layout_spells t)
made_spells t (Err k) e = tt

-- ---- blocks

phase_blocks : (t : Tables) (code : ECode) (m phase : ℕ) → IsBlockPhase phase → ModeReads t code m → HasBlocks t code m phase
phase_blocks t code m phase p r =
    record {
      stands = λ o there. let s : Stands t code.instrs m phase o (blocks t code m phase) = spelled_stands t code m phase o p r there in (s.address, s.found, read_path code.instrs s.address (block_chain t m phase o) s.reads);
      first = λ o e. spelled_first t code m phase o p r e;
      links = λ o o1 a there found next. spelled_links t code m phase o o1 a p r there found next;
      absent = λ o there. no_block t code m phase o there;
    }

pub blocks_stand : (t : Tables) (code : ECode) (m : ℕ) → Spells t code → m < length t.modes → HasBlocks t code m 1 × HasBlocks t code m 3
blocks_stand t code m s h =
    let r : ModeReads t code m = spelled_reads t code m (spelled_departs_not t code s) h in
    (phase_blocks t code m 1 (inl refl) r, phase_blocks t code m 3 (inr refl) r)
