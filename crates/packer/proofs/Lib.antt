mod Filled
mod Answers
