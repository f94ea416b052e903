-- Lemmas on buffered output.
use Rattle.std.proofs.Common.{◌≡◌, ℕ, List, [], ◌∷◌, ◌++◌, Option, None, Some, Result, Ok, Err, IsErr, refl, sym, ap, ◌∙◌, append_assoc, append-nil, take, subst}
use Rattle.std.proofs.KnownBytes.{Appends-trans, Keeps-trans}
use Rattle.std.specs.Global.{Vec}
use Rattle.std.specs.Io.KnownBytes.{Keeps, Appends, WriteAppends, append_known}
use Rattle.flash_store.specs.Buffering.{Sends, joined}

pub Keeps-Appends : (a b c : Option (List ℕ)) (bs : List ℕ) → Keeps a b → Appends b c bs → Appends a c bs
Keeps-Appends None b c bs p q = tt
Keeps-Appends (Some x) None c bs p q = absurd p
Keeps-Appends (Some x) (Some y) None bs p q = absurd q
Keeps-Appends (Some x) (Some y) (Some z) bs p q = q ∙ ap (λ l. l ++ bs) p

pub Keeps-WriteAppends : {E : Type 0} (a b c : Option (List ℕ)) (r : Result ℕ E) (bs : List ℕ) → Keeps a b → WriteAppends b c r bs → WriteAppends a c r bs
Keeps-WriteAppends a b c (Ok n) bs p q = Keeps-Appends a b c (take n bs) p q
Keeps-WriteAppends a b c (Err e) bs p q = Keeps-trans a b c p q

pub IsErr-WriteAppends : {E : Type 0} (a b : Option (List ℕ)) (r : Result ℕ E) (bs : List ℕ) → IsErr r → Keeps a b → WriteAppends a b r bs
IsErr-WriteAppends a b (Ok n) bs failed p = cc
IsErr-WriteAppends a b (Err e) bs failed p = p

pub Appends-none : (a b : Option (List ℕ)) (bs : List ℕ) → Appends a b bs → Appends (append_known a []) (append_known b []) bs
Appends-none None b bs p = tt
Appends-none (Some x) None bs p = absurd p
Appends-none (Some x) (Some y) bs p = append-nil y ∙ p ∙ ap (λ l. l ++ bs) (sym (append-nil x))

pub Keeps-none : (a b : Option (List ℕ)) → Keeps a b → Keeps (append_known a []) (append_known b [])
Keeps-none None b p = tt
Keeps-none (Some x) None p = absurd p
Keeps-none (Some x) (Some y) p = ap (λ l. l ++ []) p

pub WriteAppends-nil : {E : Type 0} (a b : Option (List ℕ)) (r : Result ℕ E) (bs : List ℕ) → WriteAppends a b r bs → WriteAppends (append_known a []) (append_known b []) r bs
WriteAppends-nil a b (Ok n) bs p = Appends-none a b (take n bs) p
WriteAppends-nil a b (Err e) bs p = Keeps-none a b p

pub joined-append : (xs ys : List (Vec ℕ)) → joined (xs ++ ys) ≡ joined xs ++ joined ys
joined-append [] ys = refl
joined-append (x ∷ xs) ys = ap (λ l. x.items ++ l) (joined-append xs ys) ∙ sym (append_assoc x.items (joined xs) (joined ys))

-- the last block becomes one of the blocks
pub joined-push : (rest : List ℕ) (xs ys : List (Vec ℕ)) (block : Vec ℕ) → ys ≡ xs ++ block ∷ [] →
    rest ++ (joined ys ++ []) ≡ rest ++ (joined xs ++ block.items)
joined-push rest xs ys block e = ap (λ l. rest ++ l)
    (append-nil (joined ys) ∙ ap joined e ∙ joined-append xs (block ∷ []) ∙ ap (λ l. joined xs ++ l) (append-nil block.items))

pub Sends-trans : (a b c : Option (List ℕ)) (xs ys zs : List ℕ) → Sends a b xs ys → Sends b c ys zs → Sends a c xs zs
Sends-trans a b c xs ys zs p q = (
  p.0 ++ q.0,
  Appends-trans a b c p.0 q.0 p.1 q.1,
  p.2 ∙ ap (λ l. p.0 ++ l) q.2 ∙ sym (append_assoc p.0 q.0 zs),
)

-- later bytes stay where they are
pub Sends-before : (a b : Option (List ℕ)) (xs ys more : List ℕ) → Sends a b xs ys → Sends a b (xs ++ more) (ys ++ more)
Sends-before a b xs ys more p = (p.0, p.1, ap (λ l. l ++ more) p.2 ∙ append_assoc p.0 ys more)

-- the first block is sent, in whole or in part
pub Sends-block : (a b c : Option (List ℕ)) (all rest : List ℕ) (blocks left : List (Vec ℕ)) (block : Vec ℕ) →
    Sends a b all (joined blocks) → blocks ≡ block ∷ left → Sends b c block.items rest → Sends a c all (rest ++ joined left)
Sends-block a b c all rest blocks left block p e q =
    let first : Sends a b all (block.items ++ joined left) = subst (λ l. Sends a b all (joined l)) e p in
    Sends-trans a b c all (block.items ++ joined left) (rest ++ joined left) first (Sends-before b c block.items rest (joined left) q)

-- the rest is sent, in whole or in part
pub Sends-rest : (a b : Option (List ℕ)) (rest left held : List ℕ) → Sends a b rest left → Sends a b (rest ++ held) (left ++ held)
Sends-rest a b rest left held p = Sends-before a b rest left held p

-- the rest is sent, then the blocks, in whole or in part
pub Sends-blocks : (a b c : Option (List ℕ)) (rest none left last : List ℕ) (all blocks : List (Vec ℕ)) →
    Sends a b rest none → none ≡ [] → Sends b c (joined all) (left ++ joined blocks) →
    Sends a c (rest ++ (joined all ++ last)) (left ++ (joined blocks ++ last))
Sends-blocks a b c rest none left last all blocks p e q =
    let all_sent : Sends a b rest [] = subst (Sends a b rest) e p in
    let first : Sends a b (rest ++ (joined all ++ last)) (joined all ++ last) = Sends-before a b rest [] (joined all ++ last) all_sent in
    let then : Sends b c (joined all ++ last) (left ++ (joined blocks ++ last)) =
    subst (Sends b c (joined all ++ last)) (append_assoc left (joined blocks) last) (Sends-before b c (joined all) (left ++ joined blocks) last q) in
    Sends-trans a b c _ _ _ first then

-- the last block is sent, after all others
pub Sends-last : (a b c : Option (List ℕ)) (all rest last left : List ℕ) (blocks : List (Vec ℕ)) →
    Sends a b all (rest ++ (joined blocks ++ last)) → rest ≡ [] → blocks ≡ [] → Sends b c last left → Sends a c all (rest ++ (joined blocks ++ left))
Sends-last a b c all rest last left blocks p none empty q =
    let only : (xs : List ℕ) → rest ++ (joined blocks ++ xs) ≡ xs = λ xs. ap (λ l. l ++ (joined blocks ++ xs)) none ∙ ap (λ l. joined l ++ xs) empty in
    subst (Sends a c all) (sym (only left)) (Sends-trans a b c all last left (subst (Sends a b all) (only last) p) q)

-- what is sent and what is held are together as they were
pub Sends-Keeps : (a b : Option (List ℕ)) (xs ys : List ℕ) → Sends a b xs ys → Keeps (append_known a xs) (append_known b ys)
Sends-Keeps None b xs ys p = tt
Sends-Keeps (Some x) None xs ys p = absurd p.1
Sends-Keeps (Some x) (Some y) xs ys p = ap (λ l. l ++ ys) p.1 ∙ append_assoc x p.0 ys ∙ ap (λ l. x ++ l) (sym p.2)

-- all held bytes are sent, and a write follows
pub Sends-WriteAppends : {E : Type 0} (a b c : Option (List ℕ)) (held left : List ℕ) (r : Result ℕ E) (bs : List ℕ) →
    Sends a b held left → left ≡ [] → WriteAppends b c r bs → WriteAppends (append_known a held) (append_known c left) r bs
Sends-WriteAppends a b c held left r bs p none q =
    let kept : Keeps (append_known a held) (append_known b []) = subst (λ l. Keeps (append_known a held) (append_known b l)) none (Sends-Keeps a b held left p) in
    let written : WriteAppends (append_known a held) (append_known c []) r bs = Keeps-WriteAppends _ _ _ r bs kept (WriteAppends-nil b c r bs q) in
    subst (λ l. WriteAppends (append_known a held) (append_known c l) r bs) (sym none) written
