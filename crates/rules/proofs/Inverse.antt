-- Left inverses of the parity parts, as constants that nobody has to trust: the tests of Unique compute them.
use mathlib.Core.List.{List, [], ◌∷◌}
use Prim.Native.Nat.{ℕ}

unfoldable pub inverse16 : List (List ℕ)
inverse16 =
    (0x359c ∷ 0x393d ∷ 0x7f72 ∷ 0x95dc ∷ []) ∷
    (0xc8be ∷ 0x386b ∷ 0xf670 ∷ 0x7d9d ∷ []) ∷
    (0xb22f ∷ 0x78c1 ∷ 0x86f1 ∷ 0x69bc ∷ []) ∷
    (0xd9c3 ∷ 0xfe60 ∷ 0xc1fc ∷ 0x307e ∷ []) ∷ []

unfoldable pub inverse32 : List (List ℕ)
inverse32 =
    (0xcde43d63 ∷ 0x0337bb36 ∷ 0xaa16caeb ∷ 0xd7a703d8 ∷ []) ∷
    (0x741405c1 ∷ 0x03d0175b ∷ 0xbf8eac36 ∷ 0xddff4aed ∷ []) ∷
    (0xf71fc1bb ∷ 0x6fd84dc1 ∷ 0xe8ce787a ∷ 0x2c53571c ∷ []) ∷
    (0xdbe366bd ∷ 0xdd634db9 ∷ 0x6d6de71f ∷ 0x856c18ea ∷ []) ∷ []

unfoldable pub inverse64 : List (List ℕ)
inverse64 =
    (0xb2ec55a5a78df0dd ∷ 0xea5c60c3c3b1989b ∷ 0xae016af4539af984 ∷ 0xd5acda5241652070 ∷ []) ∷
    (0xdb35571889bc8675 ∷ 0x750bcaff46bfba54 ∷ 0x71cd23a6de102e5a ∷ 0x96e0a1b0855a4780 ∷ []) ∷
    (0x0073c38af24ba7a2 ∷ 0x19b949af04b1d1b0 ∷ 0xce6319603d7c64e0 ∷ 0xf9ea80a649e354c5 ∷ []) ∷
    (0x62de39bb0795f822 ∷ 0x390df14b5849e7b9 ∷ 0x4d57a7853ebfaa27 ∷ 0xd1baa9d1d79f8f03 ∷ []) ∷ []

unfoldable pub inverse511 : List (List ℕ)
inverse511 =
    (0x5c77c0da5c6066e61afd25d908581cff76e5f9ba8c7db283066f98af9409bdcb72ab754b1f4532f15a81a0aa044f94931f74dbf94451c0e4177e67e04bf5b79a
    ∷ 0x199a85244b5dfe70cb55fe1668881a1077c3ef1ab1fe35b81a037ca483feb4baa1019908108053c9fd0a68922c7b6de606a0d739fb702a8db60a77aaa0f85510
    ∷ []) ∷
    (0x0ac922611e39d130e6409a13d1c428fe44b6fca877b9e585f2fbb674a83771f2886cfb2d807e995d507b4c6d95de6fb0376f63b18271a840230650f05b98faca
    ∷ 0x554b156d38fedcd5f38be5eed0a95a96417d6f5dec4af364ffd0a84cea18935c2bb44b9f96a1b6c4aca07dd33750920e8790d22970dbbef3ac1e4c8d15ab8356
    ∷ []) ∷ []
