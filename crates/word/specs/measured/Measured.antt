-- What is known of a word once it is measured.
use Rattle.std.specs.Prelude.{◌≡◌, true, false, List, ℕ}
use Rattle.bits.specs.Bits.{Word, bit}
use Rattle.rules.specs.Codes.{code, offered}
use Rattle.rules.specs.Encoding.{lifted}
use Rattle.vectors.specs.Vectors.{wbit}
use Rattle.layout.specs.declared.Shape.{Shape}
use Rattle.layout.specs.Lent.{laid}
use Rattle.catalogue.specs.offer.Offers.{offer_of}
use Rattle.catalogue.specs.tables.Flat.{Lends}

-- The size of a block of some code.
pub record Size (size : ℕ) : Type 0 where
  pub number : ℕ
  pub offers : offered number ≡ true
  pub is : size ≡ (offer_of number).shape.size

-- Room for a word and for its syndrome, as zeros.
abbrev pub Blank : List ℕ → List ℕ → Type 0
Blank y z = (wbit y ≡ (λ n. false)) × (wbit z ≡ (λ n. false))

-- The places h and the shape are the code's, y is the word, and z its syndrome.
pub record Measured (n : ℕ) (word h : List ℕ) (y z : Word) (sh : Shape) : Type 0 where
  pub lends : Lends n h sh
  pub bits : y ≡ lifted (code n) (bit word)
  pub held : z ≡ laid (code n) sh y
