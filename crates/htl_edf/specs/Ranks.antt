-- Positions in the order of their tightened ends, and their ranks in that order in the order of their tightened releases.
use Rattle.std.specs.Prelude.{◌≡◌, ℕ, ◌+◌, ◌*◌, ◌/◌, ◌%◌, ◌<◌, ◌≤◌, ◌&&◌, ltb, List, length, get_or, pos, ◌+ℤ◌, nat_abs}
use Rattle.htl_model.specs.Bits.{has_bit}
use Rattle.htl_walk.specs.declared.job.Job.{Job}
use Rattle.htl_edf.specs.{Lists.jobs_of, Tight.release_at, Tight.end_at}

-- an item is a time and a number below 128 in one
abbrev pub item : ℕ → ℕ → ℕ
item time number = time * 128 + number

abbrev pub number_of : List ℕ → ℕ → ℕ
number_of items n = get_or items n 0 % 128

abbrev pub time_of : List ℕ → ℕ → ℕ
time_of items n = get_or items n 0 / 128

-- the numbers below `count` with their times, by time; of those with the same time the lowest first
pub record AreInOrder (count : ℕ) (time : ℕ → ℕ) (items : List ℕ) : Type 0 where
  pub len : length items ≡ count
  pub within : (n : ℕ) → n < count → number_of items n < count
  pub times : (n : ℕ) → n < count → time_of items n ≡ time (number_of items n)
  pub all : (q : ℕ) → q < count → (n : ℕ) × (n < count) × (number_of items n ≡ q)
  pub rises : (m n : ℕ) → m < n → n < count → get_or items m 0 < get_or items n 0

-- the tightened end, from an instant on that is before all of them
abbrev pub end_time : List Job → ℕ → ℕ
end_time js q = nat_abs (end_at (jobs_of js) (length js) q +ℤ pos 268435456)

abbrev pub release_time : List Job → ℕ → ℕ
release_time js q = release_at (jobs_of js) (length js) q

pub record AreRanked (js : List Job) (by_end by_release : List ℕ) : Type 0 where
  pub few : length js ≤ 128
  pub small : (q : ℕ) → q < length js → pos (end_time js q) ≡ end_at (jobs_of js) (length js) q +ℤ pos 268435456
  pub ends : AreInOrder (length js) (end_time js) by_end
  pub releases : AreInOrder (length js) (λ rank. release_time js (number_of by_end rank)) by_release

-- a bit for each rank whose position is released before h and has work left
abbrev pub IsReadyRow : List Job → List ℕ → List ℕ → ℕ → ℕ → Type 0
IsReadyRow js by_end left h ready = (rank : ℕ) → rank < length js → has_bit ready rank ≡ (ltb (release_time js (number_of by_end rank)) h && ltb 0 (get_or left (number_of by_end rank) 0))

-- what is known at t until the next release: the first `released` of the positions by release are released
pub record IsAhead (js : List Job) (by_end by_release left : List ℕ) (t until ready released : ℕ) : Type 0 where
  pub row : IsReadyRow js by_end left until ready
  pub count : released ≤ length js
  pub past : (n : ℕ) → n < released → (time_of by_release n ≤ t) × (time_of by_release n < until)
  pub later : (n : ℕ) → released ≤ n → n < length js → until ≤ time_of by_release n

-- the same at a time that a release may have reached: t itself counts
pub record IsReleased (js : List Job) (by_end by_release left : List ℕ) (t ready released : ℕ) : Type 0 where
  pub row : IsReadyRow js by_end left (t + 1) ready
  pub count : released ≤ length js
  pub past : (n : ℕ) → n < released → time_of by_release n ≤ t
  pub later : (n : ℕ) → released ≤ n → n < length js → t < time_of by_release n
