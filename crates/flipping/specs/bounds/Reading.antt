-- Where the checks of a block's bits are read.
use Rattle.std.specs.Prelude.{◌≡◌, ◌&&◌, List, ℕ, ◌+◌, ◌-◌, ◌*◌, ◌%◌, ◌≤◌, ◌<◌, leb, ltb, length, get_or, set}
use Rattle.bits.specs.Bits.{Word, count, tally, when◌then◌else◌, count_of}
use Rattle.layout.specs.declared.Shape.{Shape}
use Rattle.layout.specs.Lent.{total, shifts_of}

-- Each of the first rows of the syndrome z stands twice over in 1024 bits of d that are its own.
abbrev pub Twice : Shape → ℕ → Word → Word → Type 0
Twice sh rows z d = (r n : ℕ) → r < rows → n < 2 * sh.size → d (1024 * r + n) ≡ z (64 * (r * sh.words) + n % sh.size)

-- The m bits of z from bit `from` on stand twice over in d' from bit `to` on; what stood in d before that is still there.
pub record Placed (z : Word) (from m : ℕ) (d : Word) (to : ℕ) (d' : Word) : Type 0 where
  pub before : (n : ℕ) → n < to → d' n ≡ d n
  pub here : (n : ℕ) → n < 2 * m → d' (to + n) ≡ z (from + n % m)

-- Where the check that stands at p in a doubled row of M bits stands once more.
abbrev pub other : ℕ → ℕ → ℕ
other M p = when ltb (p % 1024) M then p + M else p - M

-- Of n starts from start `first` on, how many have a bit set k places on.
abbrev pub hits : Word → List ℕ → ℕ → ℕ → ℕ → ℕ
hits d starts first n k = count n (λ e. d (get_or starts (first + e) 0 + k))

-- Bit k of a block is one of those from bit `begin` to before bit m, and at most so many of its n checks are met.
abbrev pub light : Word → List ℕ → ℕ → ℕ → ℕ → ℕ → ℕ → Word
light d starts first n met begin m k = (leb begin k && ltb k m) && leb n (hits d starts first n k + met)

-- After n starts, one more is written where s is an entry, and none where it is not.
pub record Noted (s m row : ℕ) (starts : List ℕ) (n : ℕ) (starts' : List ℕ) (n' : ℕ) : Type 0 where
  pub long : length starts' ≡ length starts
  pub many : n' ≡ n + tally (ltb s m)
  pub new : starts' ≡ (when ltb s m then set starts n (row + (m - s)) else starts)

-- n starts from start `first` on: none is past `end`, and whatever is asked of each, f says how often it holds.
pub record Listed (starts : List ℕ) (first n end : ℕ) (f : Word → ℕ) : Type 0 where
  pub near : (e : ℕ) → e < n → get_or starts (first + e) 0 ≤ end
  pub each : (g : Word) → count n (λ e. g (get_or starts (first + e) 0)) ≡ f g

-- What is asked of the entries of block b in the first rows: an entry s of row r starts M - s places into that row.
abbrev pub asked : List ℕ → Shape → ℕ → ℕ → Word → ℕ
asked h sh b rows g = total rows (λ r. count_of (shifts_of sh h r b) (λ s. g (1024 * r + (sh.size - s))))

-- The starts of block b are its entries; each block has eight places.
abbrev pub Starts : List ℕ → Shape → ℕ → List ℕ → ℕ → Type 0
Starts h sh b starts n = Listed starts (8 * b) n (3072 + sh.size) (asked h sh b sh.rows)

-- The starts of the first blocks, and how many each has.
abbrev pub Gathered : List ℕ → Shape → List ℕ → List ℕ → ℕ → Type 0
Gathered h sh starts counts blocks = (b : ℕ) → b < blocks → (get_or counts b 0 ≤ 8) × Starts h sh b starts (get_or counts b 0)
