-- Binary digits, and the cells that a making call asks for.
use Rattle.std.specs.Prelude.{ℕ, zero, suc, ◌+◌, ◌*◌, ◌/◌, min, Bool, cond, ◌==◌, nat_lt}

-- how often n can be halved until nothing is left, tried at most so often
abbrev pub halvings : ℕ → ℕ → ℕ
halvings zero n = 0
halvings (suc tries) n = cond (n == 0) 0 (1 + halvings tries (n / 2))

-- the binary digits of n: 0 has none, 7 has 3 and 8 has 4
abbrev pub digits : ℕ → ℕ
digits n = halvings n n

-- put and remove, from a map of n entries
abbrev pub edit_reserve : ℕ → ℕ
edit_reserve n = 12 * (digits n + 1)

abbrev pub window_reserve : ℕ → ℕ
window_reserve n = 64 * (digits n + 1)

-- merge, common and without, from maps of n and of m entries
abbrev pub pair_reserve : ℕ → ℕ → ℕ
pair_reserve n m = n + m + 8

abbrev pub sift_reserve : ℕ → ℕ
sift_reserve n = n + 8

-- build, from a slice of p entries
abbrev pub build_reserve : ℕ → ℕ
build_reserve p = p + 12 * (digits p + 1)

-- the largest number of 32 bits: a reserve is told capped at it, and no map has a larger number
abbrev pub largest : ℕ
largest = 4294967295

abbrev pub capped : ℕ → ℕ
capped n = min n largest

-- where refusal 6 applies: the used cells and the reserve are more than there are
abbrev pub exceeds : ℕ → ℕ → ℕ → Bool
exceeds cells used reserve = nat_lt cells (used + reserve)
