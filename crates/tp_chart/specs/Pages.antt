-- What is written of a picture.
use Rattle.std.specs.Prelude.{ℕ, Bool, List, ◌++◌, if◌then◌else◌}

-- a page with the picture between its head and its foot, or the picture alone
abbrev pub page_of : List ℕ → List ℕ → Bool → List ℕ → List ℕ
page_of head foot is_page picture = if is_page then head ++ picture ++ foot else picture
