-- Tables with one thing wrong, by number.
use Rattle.std.specs.Prelude.{Bool, not, ◌&&◌, ◌||◌, List, ℕ, ◌+◌, ◌*◌, ◌/◌, ◌%◌, ◌^◌, eqb, ltb, get_or, set}
use Rattle.std.specs.Int.Bits.{bit_xor}
use Rattle.bits.specs.Bits.{when◌then◌else◌}
use Rattle.identity.specs.ties.Flat.{Filled, flat_tied}
use Rattle.identity.specs.declared.ties.Sizes.{Sizes}

-- Two flat lists have the lengths that the sizes of a pair of tables say.
abbrev pub Fitting : Sizes → List ℕ → List ℕ → Type 0
Fitting s parity generator = Filled s.m s.rows s.information_blocks s.parity_blocks parity generator

-- The identity, at such lists.
abbrev pub sized_tied : Sizes → ℕ → List ℕ → List ℕ → Bool
sized_tied s printed parity generator = flat_tied s.m printed s.rows s.information_blocks s.parity_blocks parity generator

-- One hex digit of one word is another: the digits differ by one of 15 numbers. The digits of a word are counted from the last.
abbrev pub word : ℕ → ℕ → ℕ
word digits t = t / 15 / digits

abbrev pub other_digit : ℕ → List ℕ → ℕ → List ℕ
other_digit digits generator t =
    set generator (word digits t) (bit_xor (get_or generator (word digits t) 0) ((t % 15 + 1) * 2 ^ (t / 15 % digits * 4)))

-- What the block of a place already has.
abbrev pub in_block : List ℕ → ℕ → ℕ → Bool
in_block parity first s = eqb (get_or parity first 0) s || (eqb (get_or parity (first + 1) 0) s || eqb (get_or parity (first + 2) 0) s)

-- A shift is added: the third place of a block has none, and is given one that the block does not have.
abbrev pub added : ℕ → List ℕ → ℕ → ℕ → Bool
added M parity place s = eqb (place % 3) 2 && (ltb s M && not (in_block parity (place / 3 * 3) s))

-- A place holds s instead: a shift or, as M is no shift, none. Where it has a shift, any other s is a wrong entry: another shift, also one
-- that the block has already, or the shift left out. Where it has none, one is added.
abbrev pub wrong_entry_of : ℕ → List ℕ → ℕ → ℕ → Bool
wrong_entry_of M parity place s =
    when ltb (get_or parity place 0) M then not (eqb (get_or parity place 0) s) else added M parity place s

-- What the identity notices: wrong digit t, and wrong entry t.
abbrev pub digit_noticed_of : Sizes → ℕ → ℕ → List ℕ → List ℕ → ℕ → Bool
digit_noticed_of sizes printed digits parity generator t =
    not (sized_tied sizes printed parity (other_digit digits generator t))

abbrev pub place_noticed_of : Sizes → ℕ → List ℕ → List ℕ → ℕ → ℕ → Bool
place_noticed_of sizes printed parity generator place s =
    wrong_entry_of sizes.m parity place s && not (sized_tied sizes printed (set parity place s) generator)

abbrev pub entry_wrong : ℕ → List ℕ → ℕ → Bool
entry_wrong M parity t = wrong_entry_of M parity (t / (M + 1)) (t % (M + 1))

abbrev pub entry_noticed_of : Sizes → ℕ → List ℕ → List ℕ → ℕ → Bool
entry_noticed_of sizes printed parity generator t =
    place_noticed_of sizes printed parity generator (t / (sizes.m + 1)) (t % (sizes.m + 1))
