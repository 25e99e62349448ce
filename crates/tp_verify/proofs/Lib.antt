mod CheckFacts
mod InOrderFacts
mod VerdictFacts
mod WordFacts
