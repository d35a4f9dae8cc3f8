-- What the solver needs of each code, and that its rows are then the encoder's parity. Assumes nothing.
use mathlib.Core.Path.{◌≡◌, refl, sym, ap, ◌∙◌, fun_ext, subst}
use mathlib.Core.Bool.{true, false, ◌&&◌}
use mathlib.Core.Logic.{⊎_elim}
use mathlib.Core.List.{List, []}
use Prim.Native.Nat.{ℕ, ◌+◌, ◌-◌, ◌*◌, ◌/◌, ◌%◌, ◌≤◌, ◌<◌}
use native.Mathlib.Omega.{arith}
use lib.Dec.{T, lit<, lit≤}
use lib.ListN.{get_or}
use borrow.Author.Tests.{lt-ltb, le-ltb}
use Rattle.bits.specs.Bits.{Word, octets, ◌⊕◌, below}
use Rattle.bits.proofs.Octets.{octets_same}
use Rattle.bits.proofs.Orders.{le-or-lt}
use Rattle.bits.proofs.Sums.{below_at}
use Rattle.rules.specs.Tables.{parity16, parity32, parity64, parity511, generator16, generator32, generator64, generator511}
use Rattle.rules.specs.Codes.{Code, bits, information, code, code1, code2, code3, code4, code5, offered}
use Rattle.rules.specs.Encoding.{parity_bit, encoded, lifted, sent, written}
use Rattle.rules.proofs.Numbers.{five}
use Rattle.rules.proofs.Codewords.{encoded_information, encoded_parity, lifted_sent_bit}
use Rattle.vectors.specs.Vectors.{up_to, joined}
use Rattle.vectors.proofs.Cells.{joined_below, joined_above}
use Rattle.vectors.proofs.Spans.{up_to_below, up_to_above}
use Rattle.layout.specs.declared.Shape.{Shape}
use Rattle.layout.specs.Lent.{laid}
use Rattle.syndromes.specs.Rows.{rowed, wide}
use Rattle.syndromes.proofs.Laid.{laid_rows}
use Rattle.rules.specs.Checks.{check}
use Rattle.catalogue.specs.declared.offer.Offer.{Offer}
use Rattle.catalogue.specs.offer.Offers.{offer_of}
use Rattle.word.specs.ownparity.Odd.{odd_together_of}
use Rattle.encoder.specs.steps.Steps.{rows_in, check_rows}
use Rattle.encoder.proofs.steps.Telecommand.{walk1, walk2, walk3}
use Rattle.encoder.proofs.steps.NearEarth.{walk_near}
use Rattle.encoder.specs.parityrows.Rows.{held, Fits, steps_of, end_rows, Within, wide_shape, narrow_shape, behind, informed, completed}

pub record Ready (n : ℕ) (sh : Shape) : Type 0 where
  pub fits : Fits sh
  pub inside : Within sh.rows (steps_of sh.size)
  pub size_is : (code n).size ≡ sh.size
  pub informs : information (code n) ≡ informed sh
  pub bits_are : bits (code n) ≡ informed sh + sh.rows * sh.size
  -- the octets that are handed in and out
  pub enough : informed sh ≤ 8 * (offer_of n).information + (offer_of n).unsent
  pub front : (informed sh - (offer_of n).unsent) / 8 ≤ (offer_of n).word
  pub behind_front : (offer_of n).word ≤ (informed sh - (offer_of n).unsent) / 8 + 128
  pub near : sh.size ≡ 511 → sh ≡ wide_shape
  pub other : (sh.size ≡ 511 → ⊥) → sh ≡ narrow_shape sh.size
  pub last : (sh.size ≡ 511 → ⊥) → (sh.size ≡ 16 → ⊥) → (sh.size ≡ 32 → ⊥) → sh.size ≡ 64
  pub small : (sh.size ≡ 511 → ⊥) → ((offer_of n).information ≤ 32) × ((offer_of n).unsent ≡ 0)
  pub near_rows : sh.size ≡ 511 → (x : Word) → ((i : ℕ) → information (code n) ≤ i → x i ≡ false) → (p : ℕ)
      → p < bits (code n) - information (code n)
      → end_rows n sh.size x ((p / sh.size + 0) % sh.rows) (p % sh.size) ⊕ odd_together_of x ((p / sh.size + 0) % sh.rows) ≡ parity_bit
      (code n) x p
  pub other_rows : (sh.size ≡ 511 → ⊥) → (x : Word) → ((i : ℕ) → information (code n) ≤ i → x i ≡ false) → (p : ℕ)
      → p < bits (code n) - information (code n)
      → end_rows n sh.size x ((p / sh.size + 1) % sh.rows) (p % sh.size) ≡ parity_bit (code n) x p

within_by : (R : ℕ) (steps : List (List ℕ)) → T (below 15 (λ k. rows_in R (get_or steps k []))) → Within R steps
within_by R steps t k h = below_at 15 (λ k. rows_in R (get_or steps k [])) t k h

ready1 : Ready 1 (offer_of 1).shape
unfolding steps_of code code1 parity16 generator16
ready1 = record {
  fits = record { some = lit≤ tt; held_in = lit≤ tt; close = lit< tt; words = lit≤ tt; room = lit≤ tt; parity = lit≤ tt };
  inside = within_by 4 (steps_of 16) tt;
  size_is = refl;
  informs = refl;
  bits_are = refl;
  enough = lit≤ tt;
  front = lit≤ tt;
  behind_front = lit≤ tt;
  near = λ e. absurd (omega arith);
  other = λ d. refl;
  last = λ d a b. absurd (a refl);
  small = λ d. (lit≤ tt, refl);
  near_rows = λ e. absurd (omega arith);
  other_rows = λ d. walk1;
}

ready2 : Ready 2 (offer_of 2).shape
unfolding steps_of code code2 parity32 generator32
ready2 = record {
  fits = record { some = lit≤ tt; held_in = lit≤ tt; close = lit< tt; words = lit≤ tt; room = lit≤ tt; parity = lit≤ tt };
  inside = within_by 4 (steps_of 32) tt;
  size_is = refl;
  informs = refl;
  bits_are = refl;
  enough = lit≤ tt;
  front = lit≤ tt;
  behind_front = lit≤ tt;
  near = λ e. absurd (omega arith);
  other = λ d. refl;
  last = λ d a b. absurd (b refl);
  small = λ d. (lit≤ tt, refl);
  near_rows = λ e. absurd (omega arith);
  other_rows = λ d. walk2;
}

ready3 : Ready 3 (offer_of 3).shape
unfolding steps_of code code3 parity64 generator64
ready3 = record {
  fits = record { some = lit≤ tt; held_in = lit≤ tt; close = lit< tt; words = lit≤ tt; room = lit≤ tt; parity = lit≤ tt };
  inside = within_by 4 (steps_of 64) tt;
  size_is = refl;
  informs = refl;
  bits_are = refl;
  enough = lit≤ tt;
  front = lit≤ tt;
  behind_front = lit≤ tt;
  near = λ e. absurd (omega arith);
  other = λ d. refl;
  last = λ d a b. refl;
  small = λ d. (lit≤ tt, refl);
  near_rows = λ e. absurd (omega arith);
  other_rows = λ d. walk3;
}

ready4 : Ready 4 (offer_of 4).shape
unfolding steps_of code code4 parity511 generator511
ready4 = record {
  fits = record { some = lit≤ tt; held_in = lit≤ tt; close = lit< tt; words = lit≤ tt; room = lit≤ tt; parity = lit≤ tt };
  inside = within_by 2 (steps_of 511) tt;
  size_is = refl;
  informs = refl;
  bits_are = refl;
  enough = lit≤ tt;
  front = lit≤ tt;
  behind_front = lit≤ tt;
  near = λ e. refl;
  other = λ d. absurd (d refl);
  last = λ d. absurd (d refl);
  small = λ d. absurd (d refl);
  near_rows = λ e. walk_near 1022 895 0;
  other_rows = λ d. absurd (d refl);
}

ready5 : Ready 5 (offer_of 5).shape
unfolding steps_of code code5 parity511 generator511
ready5 = record {
  fits = record { some = lit≤ tt; held_in = lit≤ tt; close = lit< tt; words = lit≤ tt; room = lit≤ tt; parity = lit≤ tt };
  inside = within_by 2 (steps_of 511) tt;
  size_is = refl;
  informs = refl;
  bits_are = refl;
  enough = lit≤ tt;
  front = lit≤ tt;
  behind_front = lit≤ tt;
  near = λ e. refl;
  other = λ d. absurd (d refl);
  last = λ d. absurd (d refl);
  small = λ d. absurd (d refl);
  near_rows = λ e. walk_near 1020 892 18;
  other_rows = λ d. absurd (d refl);
}

offered_test : (n : ℕ) → offered n ≡ true → T (offered n)
offered_test n o = subst T (sym o) tt

pub ready : (n : ℕ) → offered n ≡ true → (sh : Shape) → sh ≡ (offer_of n).shape → Ready n sh
ready n o sh e = subst (Ready n) (sym e) (five (λ n. Ready n (offer_of n).shape) ready1 ready2 ready3 ready4 ready5 n (offered_test n o))

-- a code's record has one of the shapes in numbers, and the code is ready under it
module _ (n : ℕ) (off : offered n ≡ true) {o : Offer} (is : o ≡ offer_of n) where
  own : Ready n o.shape
  own = ready n off o.shape (ap (λ z. z.shape) is)

  pub wide_is : o.shape.size ≡ 511 → o.shape ≡ wide_shape
  wide_is e = own.near e

  pub narrow_is : (o.shape.size ≡ 511 → ⊥) → o.shape ≡ narrow_shape o.shape.size
  narrow_is d = own.other d

  pub last_size : (o.shape.size ≡ 511 → ⊥) → (o.shape.size ≡ 16 → ⊥) → (o.shape.size ≡ 32 → ⊥) → o.shape.size ≡ 64
  last_size d a b = own.last d a b

  pub ready_as : {sh : Shape} → o.shape ≡ sh → Ready n sh
  ready_as {sh} e = ready n off sh (sym e ∙ ap (λ z. z.shape) is)

-- information, and rows that are the parity behind it: the word as it is sent
pub all_sent : (n : ℕ) (sh : Shape) → Ready n sh → (code n).unsent ≤ informed sh → (first : ℕ) (f : ℕ → Word) (y : Word)
    → ((p : ℕ) → p < bits (code n) - information (code n)
    → f ((p / sh.size + first) % sh.rows) (p % sh.size) ≡ parity_bit (code n) (lifted (code n) y) p)
    → octets (code n).octets_of_word (completed sh first f (informed sh - (code n).unsent) y) ≡ written (code n)
    (encoded (code n) (lifted (code n) y))
unfolding behind sent
all_sent n sh r low first f y parity = octets_same c.octets_of_word (completed sh first f N y) (sent c (encoded c x)) (λ i l.
    ⊎_elim (past i) (inside i) (le-or-lt (N + R) i))
  where
    c : Code
    c = code n

    u : ℕ
    u = c.unsent

    N : ℕ
    N = informed sh - u

    R : ℕ
    R = sh.rows * sh.size

    x : Word
    x = lifted c y

    rows : Word
    rows i = behind sh first f (i - N)

    past : (i : ℕ) → N + R ≤ i → completed sh first f N y i ≡ sent c (encoded c x) i
    past i h =
        up_to_above (N + R) i (joined N y rows) h
        ∙ sym (ap (λ b. b && encoded c x (i + u)) (le-ltb i (bits c - u) (omega (arith, r.bits_are))))

    front : (i : ℕ) → i < N → joined N y rows i ≡ encoded c x (i + u)
    front i h =
        joined_below N i y rows h
        ∙ sym (encoded_information c x (i + u) (omega (arith, r.informs)) ∙ lifted_sent_bit c y i)

    rear : (i : ℕ) → N ≤ i → i < N + R → joined N y rows i ≡ encoded c x (i + u)
    rear i h l =
        let p : i + u - information c ≡ i - N = omega (arith, r.informs) in
        joined_above N i y rows h
        ∙ parity (i - N) (omega (arith, r.informs, r.bits_are))
        ∙ sym (encoded_parity c x (i + u) (omega (arith, r.informs)) ∙ ap (parity_bit c x) p)

    inside : (i : ℕ) → i < N + R → completed sh first f N y i ≡ sent c (encoded c x) i
    inside i l =
        up_to_below (N + R) i (joined N y rows) l
        ∙ ⊎_elim (λ (h : N ≤ i). rear i h l) (front i) (le-or-lt N i)
        ∙ sym (ap (λ b. b && encoded c x (i + u)) (lt-ltb i (bits c - u) (omega (arith, r.bits_are))))

-- the syndrome as it is held
pub start_held : (n : ℕ) {own sh : Shape} → own ≡ sh → Ready n sh → (x : Word) → laid (code n) own x ≡ held sh (check_rows (code n) x)
start_held n {own} {sh} e r x =
    ap (λ z. laid (code n) z x) e ∙ laid_rows (code n) sh x
    ∙ ap (λ M. rowed (wide sh) sh.rows (λ j. up_to sh.size (λ i. check (code n) x (j * M + i)))) (sym r.size_is)

-- a word that has zeros behind its information
pub short_of : (m : ℕ) (x : Word) → x ≡ up_to m x → (i : ℕ) → m ≤ i → x i ≡ false
short_of m x e i h = ap (λ z. z i) e ∙ up_to_above m i x h

-- information without spare bits, as it is sent
pub short_sent : (n : ℕ) (y : Word) (N : ℕ) → N + (code n).unsent ≡ information (code n)
    → lifted (code n) y ≡ up_to (information (code n)) (lifted (code n) y)
    → y ≡ up_to N y
short_sent n y N e short = fun_ext (λ i. ⊎_elim
    (λ (h : N ≤ i).
    sym (lifted_sent_bit (code n) y i)
    ∙ short_of (information (code n)) (lifted (code n) y) short (i + (code n).unsent) (omega arith)
    ∙ sym (up_to_above N i y h))
    (λ (h : i < N). sym (up_to_below N i y h))
    (le-or-lt N i))
