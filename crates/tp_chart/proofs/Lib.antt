mod Ways
mod OutSpans
mod Plain
