-- The numbers of words, from the first on.
use Rattle.std.proofs.Common.{◌≡◌, ℕ, List, [], ◌∷◌, ◌++◌, Option, Some, None, refl, sym, ap, ◌∙◌, append_assoc}
use Rattle.std.specs.Prelude.{option_map}
use Rattle.certificate.specs.Grammar.{in_front, number, numbers}

-- the numbers in front, and then those of the others
abbrev pub put_before : List ℕ → Option (List ℕ) → Option (List ℕ)
put_before front others = option_map (λ ns. front ++ ns) others

pub none_before : (others : Option (List ℕ)) → others ≡ put_before [] others
none_before None = refl
none_before (Some ns) = refl

one_more : (front : List ℕ) (n : ℕ) (others : Option (List ℕ))
    → put_before front (in_front (Some n) others) ≡ put_before (front ++ n ∷ []) others
one_more front n None = refl
one_more front n (Some ns) = ap Some (sym (append_assoc front (n ∷ []) ns))

-- a word more, where it writes a number
pub word_more : (whole : Option (List ℕ)) (front new word : List ℕ) (words all : List (List ℕ))
    (n : ℕ) → all ≡ word ∷ words → Some n ≡ number word → new ≡ front ++ n ∷ []
    → whole ≡ put_before front (numbers all) → whole ≡ put_before new (numbers words)
word_more whole front new word words all n first is more e =
    e ∙ ap (λ ws. put_before front (numbers ws)) first
    ∙ ap (λ x. put_before front (in_front x (numbers words))) (sym is)
    ∙ one_more front n (numbers words) ∙ ap (λ f. put_before f (numbers words)) (sym more)

-- one that writes none
pub no_number : (whole : Option (List ℕ)) (front word : List ℕ) (words all : List (List ℕ)) → all ≡ word ∷ words
    → None ≡ number word
    → whole ≡ put_before front (numbers all) → None ≡ whole
no_number whole front word words all first is e =
    sym (e ∙ ap (λ ws. put_before front (numbers ws)) first
    ∙ ap (λ x. put_before front (in_front x (numbers words))) (sym is))

-- the last word
pub last_word : (whole : Option (List ℕ)) (front new word : List ℕ) (all : List (List ℕ)) (n : ℕ)
    → all ≡ word ∷ [] → Some n ≡ number word → new ≡ front ++ n ∷ []
    → whole ≡ put_before front (numbers all) → Some new ≡ whole
last_word whole front new word all n first is more e =
    sym (e ∙ ap (λ ws. put_before front (numbers ws)) first
    ∙ ap (λ x. put_before front (in_front x (Some []))) (sym is) ∙ ap Some (sym more))
