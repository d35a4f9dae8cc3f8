-- The division by octets: a register of 16 coefficients takes one octet after another, by the table.
use mathlib.Core.Path.{◌≡◌, refl, sym, ap, ap₂, ◌∙◌}
use mathlib.Core.Bool.{Bool, true, false}
use mathlib.Core.List.{List, [], ◌∷◌, ◌++◌, append_assoc}
use Prim.Native.Nat.{ℕ, suc, ◌+◌, ◌*◌, ◌/◌, ◌%◌, ◌≤◌, ◌<◌, zero-le}
use native.Mathlib.Omega.{arith}
use lib.Bits.{bit_xor, xor_lt}
use lib.Seq.{drop-cons}
use native.Mathlib.Numerals.{add-one}
use lib.Dec.{eqb, eqb→eq, lit<}
use lib.ListN.{length, get_or, drop, drop_of_length-le, replicate, length-append}
use Rattle.bits.specs.Bits.{digit, bit, number, ◌⊕◌}
use Rattle.bits.proofs.Octets.{digit_number, number_digit, bit_past}
use Rattle.blocks.specs.framecheck.FrameCheck.{coefficients, plus, remainder, value, frame_check}
use Rattle.blocks.specs.framecheck.Table.{entry, table}
use Rattle.blocks.proofs.framecheck.Polynomials.{zeros, plus_comm, plus_longer, plus_append, plus_front, plus_zeros, plus_assoc}
use Rattle.blocks.proofs.framecheck.Polynomials.{length_coefficients, coefficients_plus, coefficients_append, coefficients_same}
use Rattle.blocks.proofs.framecheck.Polynomials.{coefficients_zeros, coefficients_of, coefficient}
use Rattle.blocks.proofs.framecheck.Division.{remainder_zeros, remainder_add, remainder_plus, length_remainder}
use Rattle.blocks.proofs.framecheck.Places.{digit_xor, digit_high, digit_low, digit_none, number_same, this_octet, next_octet}
use Rattle.blocks.proofs.framecheck.Rule.{at}

-- The 16 coefficients that a number stands for.
abbrev pub register : ℕ → List Bool
register r = coefficients 16 (digit 16 r)

pub register_value : (p : List Bool) → length p ≡ 16 → register (value p) ≡ p
register_value p e =
    coefficients_same 16 (digit 16 (value p)) (λ k. get_or p k false) (λ k l. digit_number 16 (λ k. get_or p k false) k l)
    ∙ coefficients_of 16 p e

pub value_register : (r : ℕ) → r < 65536 → value (register r) ≡ r
value_register r h =
    number_same 16 (λ k. get_or (register r) k false) (digit 16 r) (λ k l. coefficient 16 (digit 16 r) k l) ∙ number_digit 16 r h

-- ---- one octet

abbrev pub octet_bits : ℕ → List Bool
octet_bits o = coefficients 8 (digit 8 o)

-- A register that has taken an octet.
abbrev pub taken : List Bool → ℕ → List Bool
taken r o = remainder 8 (plus r (octet_bits o ++ zeros 8) ++ zeros 8)

pub length_taken : (r : List Bool) (o : ℕ) → length r ≡ 16 → length (taken r o) ≡ 16
length_taken r o e =
    let l : length (octet_bits o ++ zeros 8) ≡ 16 = length-append (octet_bits o) (zeros 8)
    ∙ ap (λ n. n + 8) (length_coefficients 8 (digit 8 o)) in
    length_remainder 8 16 (plus r (octet_bits o ++ zeros 8) ++ zeros 8) (lit< tt)
    (length-append (plus r (octet_bits o ++ zeros 8)) (zeros 8)
    ∙ omega (arith, plus_longer r (octet_bits o ++ zeros 8) (omega arith)))

-- The table holds the remainders.
right : ℕ → ℕ → Bool
right k x = eqb x (entry k)

pub table_entry : (i : ℕ) → i < 256 → register (get_or table i 0) ≡ remainder 8 (octet_bits i ++ zeros 16)
unfolding right entry coefficients plus remainder number
table_entry i h =
    ap register (eqb→eq (get_or table i 0) (entry i) (at right table tt i h))
    ∙ register_value (remainder 8 (octet_bits i ++ zeros 16))
    (length_remainder 8 16 (octet_bits i ++ zeros 16) (lit< tt) (length-append (octet_bits i) (zeros 16)))

-- What a register's number becomes with an octet.
abbrev pub next : ℕ → ℕ → ℕ
next r o = bit_xor ((r % 256) * 256) (get_or table (bit_xor (r / 256) o) 0)

pub next_taken : (r o : ℕ) → bit_xor (r / 256) o < 256 → register (next r o) ≡ taken (register r) o
next_taken r o h =
    coefficients_same 16 (digit 16 (next r o)) (λ k. digit 16 ((r % 256) * 256) k ⊕ digit 16 e k)
    (λ k l. digit_xor 16 ((r % 256) * 256) e k)
    ∙ coefficients_plus 16 (digit 16 ((r % 256) * 256)) (digit 16 e)
    ∙ ap₂ plus moved (table_entry i h)
    ∙ plus_comm (low ++ zeros 8) (remainder 8 (octet_bits i ++ zeros 16))
    ∙ sym divided
  where
    i : ℕ
    i = bit_xor (r / 256) o

    e : ℕ
    e = get_or table i 0

    low : List Bool
    low = coefficients 8 (λ k. digit 16 r (8 + k))

    high : List Bool
    high = coefficients 8 (digit 16 r)

    moved : register ((r % 256) * 256) ≡ low ++ zeros 8
    moved =
        coefficients_append 8 8 (digit 16 ((r % 256) * 256))
        ∙ ap₂ (λ a b. a ++ b)
        (coefficients_same 8 (digit 16 ((r % 256) * 256)) (λ k. digit 16 r (8 + k)) (λ k l. digit_low r k l))
        (coefficients_same 8 (λ k. digit 16 ((r % 256) * 256) (8 + k)) (λ k. false) (λ k l. digit_none r k l) ∙ coefficients_zeros 8)

    top : plus high (octet_bits o) ≡ octet_bits i
    top =
        sym (coefficients_plus 8 (digit 16 r) (digit 8 o))
        ∙ coefficients_same 8 (λ k. digit 16 r k ⊕ digit 8 o k) (digit 8 i)
        (λ k l. ap (λ b. b ⊕ digit 8 o k) (sym (digit_high r k l)) ∙ sym (digit_xor 8 (r / 256) o k))

    added : plus (register r) (octet_bits o ++ zeros 8) ≡ octet_bits i ++ low
    added =
        ap (λ x. plus x (octet_bits o ++ zeros 8)) (coefficients_append 8 8 (digit 16 r))
        ∙ plus_append high low (octet_bits o) (zeros 8) (length_coefficients 8 (digit 16 r) ∙ sym (length_coefficients 8 (digit 8 o)))
        ∙ ap₂ (λ a b. a ++ b) top (plus_comm low (zeros 8) ∙ plus_zeros 8 low
        (omega (arith, length_coefficients 8 (λ k. digit 16 r (8 + k)))))

    parts : (octet_bits i ++ low) ++ zeros 8 ≡ plus (octet_bits i ++ zeros 16) (zeros 8 ++ (low ++ zeros 8))
    parts =
        append_assoc (octet_bits i) low (zeros 8)
        ∙ sym (plus_append (octet_bits i) (zeros 16) (zeros 8) (low ++ zeros 8) (length_coefficients 8 (digit 8 i))
        ∙ ap₂ (λ a b. a ++ b) (plus_comm (octet_bits i) (zeros 8)
        ∙ plus_zeros 8 (octet_bits i) (omega (arith, length_coefficients 8 (digit 8 i))))
        (plus_zeros 16 (low ++ zeros 8) (omega (arith, long))))
      where
        long : length (low ++ zeros 8) ≡ 16
        long = length-append low (zeros 8) ∙ ap (λ n. n + 8) (length_coefficients 8 (λ k. digit 16 r (8 + k)))

    divided : taken (register r) o ≡ plus (remainder 8 (octet_bits i ++ zeros 16)) (low ++ zeros 8)
    divided =
        ap (λ x. remainder 8 (x ++ zeros 8)) added
        ∙ ap (remainder 8) parts
        ∙ remainder_plus 8 (octet_bits i ++ zeros 16) (zeros 8 ++ (low ++ zeros 8))
        (omega (arith, length-append (octet_bits i) (zeros 16), length_coefficients 8 (digit 8 i)))
        (omega (arith, length-append low (zeros 8), length_coefficients 8 (λ k. digit 16 r (8 + k))))
        ∙ ap (plus (remainder 8 (octet_bits i ++ zeros 16))) (remainder_zeros 8 (low ++ zeros 8))

-- ---- one octet after another

abbrev pub over : List Bool → List ℕ → List Bool
over r [] = r
over r (o ∷ octets) = over (taken r o) octets

pub over_divides : (r : List Bool) (octets : List ℕ) → length r ≡ 16
    → remainder (8 * length octets) (plus r (coefficients (8 * length octets + 16) (bit octets))) ≡ over r octets
unfolding remainder
over_divides r [] e =
    ap (plus r) (coefficients_same 16 (bit []) (λ k. false) (λ k l. bit_past [] k zero-le) ∙ coefficients_zeros 16)
    ∙ plus_comm r (zeros 16) ∙ plus_zeros 16 r (omega arith)
over_divides r (o ∷ octets) e =
    ap₂ (λ m k. remainder m (plus r (coefficients k (bit (o ∷ octets))))) more behind
    ∙ remainder_add 8 n (plus r (coefficients (8 + (n + 16)) (bit (o ∷ octets))))
    ∙ ap (λ x. remainder n (remainder 8 (plus r x))) apart
    ∙ ap (remainder n) first
    ∙ over_divides (taken r o) octets (length_taken r o e)
  where
    n : ℕ
    n = 8 * length octets

    more : 8 * length (o ∷ octets) ≡ 8 + n
    more = omega arith

    behind : 8 * length (o ∷ octets) + 16 ≡ 8 + (n + 16)
    behind = omega arith

    rest : List Bool
    rest = coefficients (n + 16) (bit octets)

    apart : coefficients (8 + (n + 16)) (bit (o ∷ octets)) ≡ octet_bits o ++ rest
    apart =
        coefficients_append 8 (n + 16) (bit (o ∷ octets))
        ∙ ap₂ (λ a b. a ++ b)
        (coefficients_same 8 (bit (o ∷ octets)) (digit 8 o) (λ k l. this_octet octets o k l))
        (coefficients_same (n + 16) (λ k. bit (o ∷ octets) (8 + k)) (bit octets) (λ k l. next_octet octets o k))

    long : length rest ≡ n + 16
    long = length_coefficients (n + 16) (bit octets)

    front : List Bool
    front = plus r (octet_bits o ++ zeros 8) ++ zeros 8

    octet_long : length (octet_bits o ++ zeros 8) ≡ 16
    octet_long = length-append (octet_bits o) (zeros 8) ∙ ap (λ n. n + 8) (length_coefficients 8 (digit 8 o))

    front_long : length front ≡ 24
    front_long =
        length-append (plus r (octet_bits o ++ zeros 8)) (zeros 8)
        ∙ omega (arith, octet_long, plus_longer r (octet_bits o ++ zeros 8) (omega (arith, octet_long)))

    parted : plus r (octet_bits o ++ rest) ≡ plus front (zeros 8 ++ rest)
    parted =
        ap (plus r)
        (sym (ap (λ x. plus x (zeros 8 ++ rest)) (append_assoc (octet_bits o) (zeros 8) (zeros 8))
        ∙ plus_append (octet_bits o) (zeros 16) (zeros 8) rest (length_coefficients 8 (digit 8 o))
        ∙ ap₂ (λ a b. a ++ b)
        (plus_comm (octet_bits o) (zeros 8) ∙ plus_zeros 8 (octet_bits o) (omega (arith, length_coefficients 8 (digit 8 o))))
        (plus_zeros 16 rest (omega (arith, long)))))
        ∙ sym (plus_assoc r ((octet_bits o ++ zeros 8) ++ zeros 8) (zeros 8 ++ rest))
        ∙ ap (λ x. plus x (zeros 8 ++ rest)) (plus_front r (octet_bits o ++ zeros 8) (zeros 8) (omega (arith, octet_long)))

    first : remainder 8 (plus r (octet_bits o ++ rest)) ≡ plus (taken r o) rest
    first =
        ap (remainder 8) parted
        ∙ remainder_plus 8 front (zeros 8 ++ rest) (omega (arith, front_long)) (omega (arith, long, length-append (zeros 8) rest))
        ∙ ap (plus (taken r o)) (remainder_zeros 8 rest)

-- ---- the frame check by numbers

abbrev pub check_from : ℕ → List ℕ → ℕ
check_from r octets = value (over (register r) octets)

pub check_starts : (octets : List ℕ) → check_from 65535 octets ≡ frame_check octets
unfolding frame_check coefficients
check_starts octets = ap value (sym (over_divides (replicate 16 true) octets refl))

pub check_goes : (r o : ℕ) (octets : List ℕ) → bit_xor (r / 256) o < 256 → check_from (next r o) octets ≡ check_from r (o ∷ octets)
check_goes r o octets h = ap (λ x. value (over x octets)) (next_taken r o h)

pub index-lt : (r o : ℕ) → r < 65536 → o < 256 → bit_xor (r / 256) o < 256
index-lt r o h k = xor_lt 8 (r / 256) o (omega arith) k

-- one octet of the list, by what is read of it and of the table
pub check_step : (octets t : List ℕ) (r i o e : ℕ) → t ≡ table → i < length octets → r < 65536 → o < 256 → o ≡ get_or octets i 0
    → e ≡ get_or t (bit_xor (r / 256) o) 0 → check_from (bit_xor ((r % 256) * 256) e) (drop (i + 1) octets) ≡ check_from r (drop i octets)
check_step octets t r i o e lent at low small read held =
    ap₂ (λ a b. check_from (bit_xor ((r % 256) * 256) a) (drop b octets)) (held
    ∙ ap (λ l. get_or l (bit_xor (r / 256) o) 0) lent) (add-one i)
    ∙ check_goes r o (drop (suc i) octets) (index-lt r o low small)
    ∙ ap (check_from r) (ap (λ z. z ∷ drop (suc i) octets) read ∙ sym (drop-cons octets i 0 at))

pub check_ends : (octets : List ℕ) (r i : ℕ) → length octets ≤ i → r < 65536 → check_from r (drop i octets) ≡ r
check_ends octets r i done small = ap (check_from r) (drop_of_length-le octets done) ∙ value_register r small
